use Rattle.std.proofs.Common.{length}
use Rattle.differences.proofs.Closes.{Closing}
use Rattle.differences.proofs.distances.closing.close.Given as goal

abbrev pub invariant-loop-m : goal.invariant-loop-m
invariant-loop-m l = Closing (length l.initial.rows) l.initial.rows l.rows l.m
