use Rattle.layers.specs.Shifts.{shifts_of}
use Rattle.layers.proofs.Shifting.{to_above}
use Rattle.layers.proofs.Writing.{Written}
use Rattle.layers.proofs.shifts.Shifts.raise.Given as goal

abbrev pub invariant-loop-i : goal.invariant-loop-i
invariant-loop-i l = Written (to_above (shifts_of l.self)) l.below l.windows l.i
