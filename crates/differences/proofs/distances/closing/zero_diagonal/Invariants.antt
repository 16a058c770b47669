use Rattle.differences.proofs.Unlinking.{Unlinking}
use Rattle.differences.proofs.distances.closing.zero_diagonal.Given as goal

abbrev pub invariant-loop-i : goal.invariant-loop-i
invariant-loop-i l = Unlinking l.rows l.i
