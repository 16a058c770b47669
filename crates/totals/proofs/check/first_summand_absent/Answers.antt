use Rattle.std.proofs.Common.{rules, tests}
use Rattle.rules.proofs.Failing.{first_by}
use Rattle.totals.specs.Sums.{there}
use Rattle.totals.proofs.check.first_summand_absent.Goals as goal

pub returns : goal.returns
returns c = first_by (there c.args.columns) c.args.summands.now _ _ _ c.position.ensures.ran c.iter.ensures.rest (λ x b q called. search (rules, tests))
