use Rattle.std.proofs.Common.{Some, None, sym, ap, ◌∙◌}
use Rattle.std.proofs.lemmas.Result.{err_from_is_err_and}
use Rattle.rules.specs.declared.fault.Fault.TheVariants.{OutOfRange}
use Rattle.differences.specs.Links.{bounded}
use Rattle.rules.specs.Refusals.{Counted}
use Rattle.totals.proofs.LinkedJudging.{linked_judged, first_within, total_there, summands_there, by_width, by_absent, by_length, by_repeated, by_bounds, checked_entries, checked_rings}
use Rattle.totals.proofs.LinkedRows.{handed_on}
use Rattle.totals.proofs.linked.check.check_linked.Goals as goal

pub returns-in_err-check_columns : goal.returns-in_err-check_columns
returns-in_err-check_columns c =
    let p = err_from_is_err_and c.from_residual.result c.from_residual.ensures.1 in
    let refused = c.in_err-check_columns.ensures.law in
    record {
      value = handed_on _ _ c.args.summands.now c.args.links.now _ _ _ p.1 (p.2 ∙ refused.1)
          (checked_entries _ _ _ _ _ (by_width _ _ c.args.summands.now c.args.links.now refused.0));
      law = linked_judged _ _ _ _;
    }

pub returns-in-Some : goal.returns-in-Some
returns-in-Some c =
    record {
      value = checked_entries _ _ _ _ _
          (by_absent _ _ c.args.summands.now c.args.links.now c.in_ok-check_columns.ensures.law (Some c.in-Some.at) (sym c.in-Some.ensures));
      law = linked_judged _ _ _ _;
    }

pub returns-then-summands-lt1 : goal.returns-then-summands-lt1
returns-then-summands-lt1 c =
    record {
      value = checked_entries _ _ _ _ _
          (by_length _ _ c.args.summands.now c.args.links.now c.in_ok-check_columns.ensures.law (sym c.in_default.ensures) c.then-summands-lt1.either);
      law = linked_judged _ _ _ _;
    }

pub first_repeated-requires : goal.first_repeated-requires
first_repeated-requires c =
    let w : Counted c.args.columns = c.in_ok-check_columns.ensures.law in
    let none = sym c.in_default.ensures in
    record {
      total = total_there _ _ c.args.summands.now c.args.links.now w none;
      there = summands_there _ c.args.total c.args.summands.now c.args.links.now w none;
    }

pub returns-in-Some-first_repeated : goal.returns-in-Some-first_repeated
returns-in-Some-first_repeated c =
    record {
      value = checked_entries _ _ _ _ _
          (by_repeated _ _ c.args.summands.now c.args.links.now c.in_ok-check_columns.ensures.law (sym c.in_default.ensures)
          (record { some = c.if-summands-lt1.false; few = c.if-summands-gt-MOST_SUMMANDS.false; links = c.if-links-gt-MOST_LINKS.false })
          (Some c.in-Some-first_repeated.at)
          (sym c.in-Some-first_repeated.ensures));
      law = linked_judged _ _ _ _;
    }

pub link_entry-requires : goal.link_entry-requires
link_entry-requires c = first_within bounded c.args.links.now c.in-Some-first_unbounded.at (sym c.in-Some-first_unbounded.ensures)

pub returns-in-Some-first_unbounded : goal.returns-in-Some-first_unbounded
returns-in-Some-first_unbounded c =
    record {
      value = checked_entries _ _ _ _ _
          (by_bounds _ _ c.args.summands.now c.args.links.now c.in_ok-check_columns.ensures.law (sym c.in_default.ensures)
          (record { some = c.if-summands-lt1.false; few = c.if-summands-gt-MOST_SUMMANDS.false; links = c.if-links-gt-MOST_LINKS.false })
          (sym c.in_default-first_repeated.ensures)
          (Some c.in-Some-first_unbounded.at)
          (sym c.in-Some-first_unbounded.ensures)
          ∙ ap (λ n. Some (OutOfRange n)) (sym c.link_entry.ensures));
      law = linked_judged _ _ _ _;
    }

pub returns : goal.returns
returns c =
    let none = by_bounds c.args.columns c.args.total c.args.summands.now c.args.links.now c.in_ok-check_columns.ensures.law (sym c.in_default.ensures)
    (record { some = c.if-summands-lt1.false; few = c.if-summands-gt-MOST_SUMMANDS.false; links = c.if-links-gt-MOST_LINKS.false })
    (sym c.in_default-first_repeated.ensures)
    None
    (sym c.in_default-first_unbounded.ensures) in
    record { value = checked_rings _ _ _ _ none _ c.check_rings.ensures; law = linked_judged _ _ _ _ }
