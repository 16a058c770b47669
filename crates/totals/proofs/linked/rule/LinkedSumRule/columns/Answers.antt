use Rattle.std.proofs.Common.{sym, refl, ◌∙◌, subst}
use Rattle.rules.specs.Refusals.{Counted}
use Rattle.totals.specs.LinkedRows.{linked_kind, kept_links}
use Rattle.totals.proofs.Rows.{width_means, row_columns}
use Rattle.totals.proofs.linked.rule.LinkedSumRule.columns.Goals as goal

pub returns : goal.returns
returns c =
    let kind = linked_kind (kept_links c.args.self.now) in
    let e = c.width.ensures ∙ width_means kind c.args.self.now.terms in
    record { same = refl; value = e; few = subst Counted (sym e) (row_columns kind c.args.self.now.terms) }
