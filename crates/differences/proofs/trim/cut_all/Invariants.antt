use Rattle.std.proofs.Common.{length}
use Rattle.differences.specs.Ends.{AllCut}
use Rattle.differences.proofs.trim.cut_all.Given as goal

abbrev pub invariant-loop-i : goal.invariant-loop-i
invariant-loop-i g l = AllCut (length l.windows) (g.D.Distance.distance l.distances) l.windows l.left l.i
