use Rattle.std.proofs.Common.{arith}
use Rattle.std.proofs.lemmas.Int.{ints, clamps}
use Rattle.differences.proofs.Rows.{relaxing_more}
use Rattle.differences.proofs.distances.closing.relax.Goals as goal

pub loop-j-preserved : goal.loop-j-preserved
loop-j-preserved c =
    let j = c.loop-j.j in
    let was = c.loop-j.invariant.near.near j c.loop-j-test.true in
    let by = c.requires.through.near j c.loop-j-test.true in
    let new = c.min.ensures.value in
    relaxing_more _ _ _ _ _ j _ c.loop-j-test.true (omega arith) (omega (arith, ints, clamps, was, by, new), omega (arith, ints, clamps, was, by, new)) (omega (arith, ints, clamps, was, by, new)) c.loop-j.invariant
