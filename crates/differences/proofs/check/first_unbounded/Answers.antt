use Rattle.std.proofs.Common.{rules, tests}
use Rattle.rules.proofs.Failing.{first_by}
use Rattle.differences.specs.Links.{bounded}
use Rattle.differences.proofs.check.first_unbounded.Goals as goal

pub returns : goal.returns
returns c = first_by bounded c.args.links.now _ _ _ c.position.ensures.ran c.iter.ensures.rest (λ x b q called. search (rules, tests))
