use Rattle.layers.specs.Shifts.{shifts_of}
use Rattle.layers.proofs.Shifting.{to_below}
use Rattle.layers.proofs.Writing.{Written}
use Rattle.layers.proofs.shifts.Shifts.lower.Given as goal

abbrev pub invariant-loop-i : goal.invariant-loop-i
invariant-loop-i l = Written (to_below (shifts_of l.self)) l.windows l.below l.i
