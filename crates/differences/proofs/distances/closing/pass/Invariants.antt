use Rattle.std.proofs.Common.{length}
use Rattle.differences.proofs.Rows.{Passing}
use Rattle.differences.proofs.distances.closing.pass.Given as goal

abbrev pub invariant-loop-i : goal.invariant-loop-i
invariant-loop-i l = Passing (length l.initial.rows) l.m l.initial.rows l.rows l.i
