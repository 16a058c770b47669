use Rattle.std.proofs.Common.{length}
use Rattle.differences.proofs.Rows.{Relaxing}
use Rattle.differences.proofs.distances.closing.relax.Given as goal

abbrev pub invariant-loop-j : goal.invariant-loop-j
invariant-loop-j l = Relaxing (length l.through) l.initial.row l.through l.leg l.row l.j
