use Rattle.std.proofs.Common.{arith}
use Rattle.std.proofs.lemmas.Int.{ints}
use Rattle.rules.proofs.Windows.{lawful_ends}
use Rattle.layers.proofs.Writing.{same_window}
use Rattle.layers.proofs.ShiftRange.{shift_range}
use Rattle.layers.proofs.shifts.moving.raised.Goals as goal

pub returns : goal.returns
returns c =
    let ends = lawful_ends c.args.window c.requires.lawful in
    let range = shift_range c.args.shift c.requires.near in
    same_window _ _ (omega (arith, ints)) (omega (arith, ints))
