use Rattle.rules.specs.Plans.{window_at, spanned}
use Rattle.layers.proofs.Writing.{Written, Unwritten}
use Rattle.layers.proofs.either.span_all.Given as goal

abbrev pub invariant-loop-i : goal.invariant-loop-i
invariant-loop-i l = Written (λ k w. spanned (window_at l.list k) w) l.initial.windows l.windows l.i × Unwritten l.initial.windows l.windows l.i
