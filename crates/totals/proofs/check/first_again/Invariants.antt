use Rattle.totals.proofs.Again.{Looking}
use Rattle.totals.proofs.check.first_again.Given as goal

abbrev pub invariant-loop-i : goal.invariant-loop-i
invariant-loop-i l = Looking l.total l.summands l.seen l.i
