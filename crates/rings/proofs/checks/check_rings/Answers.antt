use Rattle.std.proofs.Common.{Some, None, sym, ◌∙◌}
use Rattle.std.proofs.lemmas.Result.{err_from_is_err_and}
use Rattle.rules.specs.declared.fault.Fault.TheVariants.{NegativeRing, TiedSummands}
use Rattle.rules.proofs.Failing.{answer_ok, answer_err}
use Rattle.rings.specs.Tables.{at, Walks}
use Rattle.rings.proofs.Judging.{judged_ring, judged_tied, judged_neither}
use Rattle.rings.proofs.Offered.{taken, checked_links, checked_rings}
use Rattle.rings.proofs.checks.check_rings.Goals as goal

pub returns-in-Some : goal.returns-in-Some
returns-in-Some c =
    let ok = answer_ok _ (sym c.in_ok-check_links.ensures.value) in
    let same = c.of-table.ensures.columns ∙ c.fill.ensures.columns ∙ c.blank-table.ensures.columns in
    let walks : Walks c.args.columns c.args.links.now c.args.columns (at c.of-table.result.rows.now) =
    rw c.of-table.ensures.rows (rw c.blank-table.ensures.columns at c.fill.ensures.walks) in
    checked_rings _ _ _ (Some (NegativeRing c.in-Some.column)) ok
    (judged_ring _ _ (taken _ _ ok).good _ walks _ _ (rw same at c.in-Some.ensures))

pub returns-in-Some-first_tied : goal.returns-in-Some-first_tied
returns-in-Some-first_tied c =
    let ok = answer_ok _ (sym c.in_ok-check_links.ensures.value) in
    let same = c.of-table.ensures.columns ∙ c.fill.ensures.columns ∙ c.blank-table.ensures.columns in
    let walks : Walks c.args.columns c.args.links.now c.args.columns (at c.of-table.result.rows.now) =
    rw c.of-table.ensures.rows (rw c.blank-table.ensures.columns at c.fill.ensures.walks) in
    checked_rings _ _ _ (Some (TiedSummands c.in-Some-first_tied.column)) ok
    (judged_tied _ _ (taken _ _ ok).good _ walks _ (rw same at c.in_default.ensures) _
    (rw same at c.in-Some-first_tied.ensures))

pub returns : goal.returns
returns c =
    let ok = answer_ok _ (sym c.in_ok-check_links.ensures.value) in
    let same = c.of-table.ensures.columns ∙ c.fill.ensures.columns ∙ c.blank-table.ensures.columns in
    let walks : Walks c.args.columns c.args.links.now c.args.columns (at c.of-table.result.rows.now) =
    rw c.of-table.ensures.rows (rw c.blank-table.ensures.columns at c.fill.ensures.walks) in
    checked_rings _ _ _ None ok
    (judged_neither _ _ (taken _ _ ok).good _ walks _ (rw same at c.in_default.ensures)
    (rw same at c.in_default-first_tied.ensures))

pub returns-in_err-check_links : goal.returns-in_err-check_links
returns-in_err-check_links c =
    let p = err_from_is_err_and c.from_residual.result c.from_residual.ensures.1 in
    rw (p.1, p.2) (checked_links _ _ _ _ (answer_err _ _ (sym c.in_err-check_links.ensures.value)))
