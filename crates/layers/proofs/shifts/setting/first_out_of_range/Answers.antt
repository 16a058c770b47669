use Rattle.std.proofs.Common.{rules, tests}
use Rattle.rules.proofs.Failing.{first_by}
use Rattle.layers.specs.Offset.{is_shift}
use Rattle.layers.proofs.shifts.setting.first_out_of_range.Goals as goal

pub returns : goal.returns
returns c = first_by is_shift c.args.shifts.now _ _ _ c.position.ensures.ran c.iter.ensures.rest (λ x b q called. search (rules, tests))
