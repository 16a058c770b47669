use Rattle.std.proofs.Common.{rules, tests}
use Rattle.rules.proofs.Failing.{first_by}
use Rattle.differences.specs.Links.{two_columns}
use Rattle.differences.proofs.check.first_of_one_column.Goals as goal

pub returns : goal.returns
returns c = first_by two_columns c.args.links.now _ _ _ c.position.ensures.ran c.iter.ensures.rest (λ x b q called. search (rules, tests))
