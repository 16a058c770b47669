-- The shifts that a row holds.
use Rattle.std.specs.Prelude.{List, ℤ}
use Rattle.rules.specs.ShortLists.{listed}
use Rattle.layers.specs.declared.shifts.Shifts.{Shifts}

abbrev pub shifts_of : Shifts → List ℤ
shifts_of s = listed s.leading
