use Rattle.std.proofs.Common.{arith}
use Rattle.differences.proofs.Closes.{closing_more, closing_stops}
use Rattle.differences.proofs.distances.closing.close.Goals as goal

pub pass-requires : goal.pass-requires
pass-requires c =
    let even = c.loop-m.auto.rows in
    record {
      few = omega (arith, even, c.requires.few);
      there = omega (arith, even, c.loop-m-test.true);
      near = rw even c.loop-m.invariant.near;
    }

pub returns-in_err-pass : goal.returns-in_err-pass
returns-in_err-pass c = rw c.from_residual.ensures (closing_stops _ _ c.loop-m.rows _ c.loop-m.invariant (rw c.loop-m.auto.rows at c.in_err-pass.ensures))

pub loop-m-preserved : goal.loop-m-preserved
loop-m-preserved c =
    let even = c.loop-m.auto.rows in
    closing_more _ _ c.loop-m.rows _ c.loop-m.invariant _ c.loop-m-test.true (rw even at c.in_ok-pass.ensures.0) (rw even at c.in_ok-pass.ensures.1)
