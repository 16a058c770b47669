use Rattle.std.proofs.Common.{◌≡◌, ap, ◌∙◌, w32, SFits, rules}
use Rattle.std.proofs.lemmas.Int.{to_z-of_z}
use Rattle.rules.specs.Plans.{value_at}
use Rattle.layers.specs.Offset.{is_shift}
use Rattle.layers.specs.Shifts.{shifts_of}
use Rattle.layers.proofs.ShiftRange.{shift_at}
use Rattle.layers.proofs.shifts.Shifts.at.Goals as goal

pub returns-clause-near : goal.returns-clause-near
returns-clause-near c =
    let self = c.args.self.now in
    let i = c.args.column in
    let found : c.unwrap_or.result ≡ value_at (shifts_of self) i = search rules in
    let fits : SFits w32 c.unwrap_or.result = search rules in
    ap is_shift (to_z-of_z w32 _ fits ∙ found) ∙ shift_at (shifts_of self) i self.near
