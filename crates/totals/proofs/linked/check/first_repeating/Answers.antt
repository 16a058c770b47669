use Rattle.std.proofs.Common.{rules, tests}
use Rattle.rules.proofs.Failing.{first_by}
use Rattle.totals.specs.Linked.{other_columns}
use Rattle.totals.proofs.linked.check.first_repeating.Goals as goal

pub returns : goal.returns
returns c = first_by (other_columns c.args.total) c.args.links.now _ _ _ c.position.ensures.ran c.iter.ensures.rest (λ x b q called. search (rules, tests))
