use Rattle.std.proofs.Common.{refl}
use Rattle.rules.specs.Refusals.{first_failing}
use Rattle.totals.specs.Sums.{sum_refusal}
use Rattle.totals.proofs.terms.Terms.none.Goals as goal

pub returns : goal.returns
unfolding sum_refusal first_failing
returns c = rw c.empty.ensures refl
