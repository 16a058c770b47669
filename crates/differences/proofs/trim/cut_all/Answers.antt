use Rattle.std.proofs.Common.{arith}
use Rattle.differences.proofs.Cutting.{cut_more}
use Rattle.differences.proofs.trim.cut_all.Goals as goal

pub loop-i-preserved : goal.loop-i-preserved
loop-i-preserved g c = cut_more _ _ _ c.loop-i.left c.loop-i.i _ (omega arith) c.in_ok-place.ensures.0 c.in_ok-place.ensures.1 c.loop-i.invariant
