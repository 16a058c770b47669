use Rattle.std.proofs.Common.{Err, sym, ap, ◌∙◌, arith, rules}
use Rattle.std.proofs.lemmas.Result.{err_from_is_err_and}
use Rattle.rules.specs.declared.fault.Fault.{Fault}
use Rattle.rules.specs.Refusals.{answer}
use Rattle.totals.proofs.Judging.{sum_judged, no_columns, no_total, no_summand, not_few, named_twice, none_refused, within, again_within, all_there}
use Rattle.totals.proofs.check.check_sum.Goals as goal

pub returns-in_err-check_columns : goal.returns-in_err-check_columns
returns-in_err-check_columns c =
    let p = err_from_is_err_and c.from_residual.result c.from_residual.ensures.1 in
    let refused = c.in_err-check_columns.ensures.law in
    record {
      value = p.1 ∙ ap (λ (f : Fault). Err f) (p.2 ∙ refused.1) ∙ ap answer (sym (no_columns _ _ c.args.summands.now refused.0));
      law = sum_judged _ _ _;
    }

pub returns-then-total-columns : goal.returns-then-total-columns
returns-then-total-columns c =
    record {
      value = ap answer (sym (no_total _ _ c.args.summands.now c.in_ok-check_columns.ensures.law c.if-total-columns.true));
      law = sum_judged _ _ _;
    }

pub overflow_add-result : goal.overflow_add-result
overflow_add-result c = let low = within c.args.columns c.args.summands.now c.in-Some.at (sym c.in-Some.ensures) in search rules

pub returns-in-Some : goal.returns-in-Some
returns-in-Some c =
    record {
      value = ap answer
          (sym (no_summand _ _ c.args.summands.now c.in-Some.at c.in_ok-check_columns.ensures.law c.if-total-columns.false (sym c.in-Some.ensures)));
      law = sum_judged _ _ _;
    }

pub returns-then-summands-lt1 : goal.returns-then-summands-lt1
returns-then-summands-lt1 c =
    record {
      value = ap answer
          (sym (not_few _ _ c.args.summands.now c.in_ok-check_columns.ensures.law c.if-total-columns.false (search rules) c.then-summands-lt1.either));
      law = sum_judged _ _ _;
    }

pub first_again-requires : goal.first_again-requires
first_again-requires c =
    let lt = c.if-total-columns.false in
    let few = c.in_ok-check_columns.ensures.law.1 in
    record { total = omega arith; there = all_there c.args.columns c.args.summands.now few (search rules) }

pub overflow_add-result-in-Some-first_again : goal.overflow_add-result-in-Some-first_again
overflow_add-result-in-Some-first_again c =
    let low = again_within c.args.total c.args.summands.now c.in-Some-first_again.at (sym c.in-Some-first_again.ensures) in
    let few = c.if-summands-gt-MOST_SUMMANDS.false in
    search rules

pub returns-in-Some-first_again : goal.returns-in-Some-first_again
returns-in-Some-first_again c =
    record {
      value = ap answer
          (sym
          (named_twice _ _ c.args.summands.now c.in-Some-first_again.at c.in_ok-check_columns.ensures.law c.if-total-columns.false (search rules)
          c.if-summands-lt1.false
          c.if-summands-gt-MOST_SUMMANDS.false
          (sym c.in-Some-first_again.ensures)));
      law = sum_judged _ _ _;
    }

pub returns : goal.returns
returns c =
    record {
      value = ap answer
          (sym
          (none_refused _ _ c.args.summands.now c.in_ok-check_columns.ensures.law c.if-total-columns.false (search rules)
          c.if-summands-lt1.false
          c.if-summands-gt-MOST_SUMMANDS.false
          (search rules)));
      law = sum_judged _ _ _;
    }
