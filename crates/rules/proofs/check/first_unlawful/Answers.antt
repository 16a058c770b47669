use Rattle.std.proofs.Common.{rules, tests}
use Rattle.rules.specs.Plans.{lawful}
use Rattle.rules.proofs.Failing.{first_by}
use Rattle.rules.proofs.check.first_unlawful.Goals as goal

pub returns : goal.returns
returns c = first_by lawful c.args.windows.now _ _ _ c.position.ensures.ran c.iter.ensures.rest (λ x b q called. search (rules, tests))
