use Rattle.rules.specs.declared.fault.Fault.TheVariants.{ListLength}
use Rattle.rules.specs.ShortLists.{listed}
use Rattle.totals.specs.LinkedRows.{linked_kind}
use Rattle.totals.proofs.LinkedRows.{not_set}
use Rattle.totals.proofs.Rows.{none_means}
use Rattle.totals.proofs.linked.LinkedSum.fresh.Goals as goal

pub invariant_of-result : goal.invariant_of-result
invariant_of-result c =
    let no = not_set c.none.result ListLength c.none.ensures in
    record { entries = λ e. absurd (no e); rings = λ e. absurd (no e); untied = λ e. absurd (no e); wide = λ e. absurd (no e) }

pub returns : goal.returns
returns c = none_means (linked_kind (listed c.fresh.result.links)) c.none.result ListLength c.none.ensures
