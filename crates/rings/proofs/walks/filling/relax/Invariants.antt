use Rattle.rings.proofs.Rows.{Relaxing}
use Rattle.rings.proofs.walks.filling.relax.Given as goal

abbrev pub invariant-loop-j : goal.invariant-loop-j
invariant-loop-j l = Relaxing l.initial.known-items l.through l.leg l.known-items l.j
