use Rattle.std.proofs.Common.{◌≡◌, length, arith}
use Rattle.std.proofs.lemmas.Int.{ints}
use Rattle.totals.specs.Cuts.{column_at}
use Rattle.totals.proofs.Ends.{ends_at}
use Rattle.totals.proofs.Summing.{summing_more, summing_all, summed}
use Rattle.totals.proofs.cutting.Settled.sums.Goals as goal

pub loop-column-preserved : goal.loop-column-preserved
loop-column-preserved g c =
    let s = c.args.self.now in
    let i = column_at s.summands.now c.loop-column.column-index in
    let e = ends_at s.windows.now i s.lawful (s.there.there c.loop-column.column-index c.loop-column-test.true) in
    let few = s.few in (
      summing_more _ _ _ c.from-least.result _ c.loop-column.invariant.0 (omega (arith, ints)) (omega (arith, ints), omega (arith, ints)) (omega (arith, ints)),
      summing_more _ _ _ c.from-most.result _ c.loop-column.invariant.1 (omega (arith, ints)) (omega (arith, ints), omega (arith, ints)) (omega (arith, ints)),
    )

pub returns : goal.returns
returns g c =
    let few = c.args.self.now.few in
    let n = c.loop-column.column-index in
    let over = c.loop-column-test.false in
    let upto = c.loop-column.auto.column-index-end in
    let all : n ≡ length c.args.self.now.summands.now = omega arith in
    let sums = c.loop-column.invariant in
    record {
      first = summed _ _ _ _ sums.0 all;
      last = summed _ _ _ _ sums.1 all;
      moderate = (summing_all _ n _ (omega arith) sums.0, summing_all _ n _ (omega arith) sums.1);
    }
