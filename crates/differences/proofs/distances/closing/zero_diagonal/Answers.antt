use Rattle.std.proofs.Common.{arith}
use Rattle.differences.proofs.Unlinking.{unlinking_none, unlinking_more, unlinking_all}
use Rattle.differences.proofs.distances.closing.zero_diagonal.Goals as goal

pub loop-i-init : goal.loop-i-init
loop-i-init c = unlinking_none _ c.requires.long c.requires.far

pub loop-i-preserved : goal.loop-i-preserved
loop-i-preserved c = unlinking_more _ _ _ (omega arith) c.lower.ensures.same c.lower.ensures.other c.loop-i.invariant

pub returns : goal.returns
returns c = unlinking_all _ c.loop-i.i (omega arith) c.loop-i.invariant
