use Rattle.differences.specs.Closing.{Entered}
use Rattle.differences.proofs.distances.closing.enter.Given as goal

abbrev pub invariant-loop-link : goal.invariant-loop-link
invariant-loop-link l = Entered l.columns l.links l.link-index l.rows
