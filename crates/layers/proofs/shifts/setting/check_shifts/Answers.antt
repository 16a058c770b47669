use Rattle.std.proofs.Common.{rules}
use Rattle.layers.specs.Offset.{offset_refusal}
use Rattle.layers.proofs.ShiftRange.{offset_judged}
use Rattle.layers.proofs.shifts.setting.check_shifts.Goals as goal

pub returns-then-shifts-columns : goal.returns-then-shifts-columns
unfolding offset_refusal
returns-then-shifts-columns c = record { value = search rules; law = offset_judged _ _ }

pub returns-in-Some : goal.returns-in-Some
unfolding offset_refusal
returns-in-Some c = record { value = search rules; law = offset_judged _ _ }

pub returns : goal.returns
unfolding offset_refusal
returns c = record { value = search rules; law = offset_judged _ _ }
