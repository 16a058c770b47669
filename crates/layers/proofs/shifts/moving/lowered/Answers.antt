use Rattle.std.proofs.Common.{arith}
use Rattle.std.proofs.lemmas.Int.{ints, clamps}
use Rattle.rules.proofs.Windows.{lawful_ends}
use Rattle.layers.proofs.Writing.{same_window}
use Rattle.layers.proofs.ShiftRange.{shift_range}
use Rattle.layers.proofs.shifts.moving.lowered.Goals as goal

pub overflow_add-window : goal.overflow_add-window
overflow_add-window c =
    let ends = lawful_ends c.args.window c.requires.lawful in
    let range = shift_range c.args.shift c.requires.near in
    omega (arith, ints)

pub overflow_add-window-2 : goal.overflow_add-window-2
overflow_add-window-2 c =
    let ends = lawful_ends c.args.window c.requires.lawful in
    let range = shift_range c.args.shift c.requires.near in
    omega (arith, ints)

pub returns : goal.returns
returns c =
    let ends = lawful_ends c.args.window c.requires.lawful in
    let range = shift_range c.args.shift c.requires.near in
    same_window _ _ (omega (arith, ints, clamps)) (omega (arith, ints, clamps))
