use Rattle.std.proofs.Common.{sym, refl, arith, rules}
use Rattle.rules.proofs.Failing.{answer_ok}
use Rattle.totals.proofs.Judging.{sum_judged, sum_taken}
use Rattle.totals.proofs.Rows.{held}
use Rattle.totals.proofs.terms.Terms.set.Goals as goal

pub returns-in_err-of : goal.returns-in_err-of
returns-in_err-of c =
    let fit = (sum_taken _ _ _ (answer_ok _ (sym c.in_ok-check_sum.ensures.value))).fit in
    absurd (omega (arith, fit, c.in_err-of.ensures.0))

pub returns : goal.returns
returns c =
    record {
      value = search rules;
      law = sum_judged _ _ _;
      after = held _ _ _ _ refl refl c.in_ok-of.ensures.1 (answer_ok _ (sym c.in_ok-check_sum.ensures.value));
    }
