use Rattle.std.proofs.Common.{ap, ◌∙◌, arith}
use Rattle.rules.specs.Plans.{window_at, spanned}
use Rattle.layers.proofs.Writing.{written_more, unwritten_more}
use Rattle.layers.proofs.either.span_all.Goals as goal

pub loop-i-preserved : goal.loop-i-preserved
loop-i-preserved c =
    let ws = c.args.windows.now in
    let xs = c.loop-i.windows in
    let i = c.loop-i.i in (
      written_more (λ k w. spanned (window_at c.args.list.now k) w) ws xs i c.span.result (omega arith) c.loop-i.invariant.0
          (c.span.ensures ∙ ap (spanned (window_at c.args.list.now i)) (c.loop-i.invariant.1 i (omega arith))),
      unwritten_more ws xs i c.span.result c.loop-i.invariant.1,
    )

pub returns : goal.returns
returns c = λ k l. c.loop-i.invariant.0 k (omega arith)
