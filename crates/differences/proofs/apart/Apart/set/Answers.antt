use Rattle.std.proofs.Common.{sym, refl, w32, rules}
use Rattle.std.proofs.lemmas.Result.{MatchResult-from_err}
use Rattle.std.proofs.lemmas.Int.{to_z-of_z}
use Rattle.rules.proofs.Failing.{answer_ok}
use Rattle.differences.proofs.Settings.{judged}
use Rattle.differences.proofs.Means.{set_means}
use Rattle.differences.proofs.apart.Apart.set.Goals as goal

pub returns-in_err-check : goal.returns-in_err-check
returns-in_err-check c =
    record { value = search rules; law = judged _ _ _ _; after = MatchResult-from_err c.from_residual.result _ _ c.from_residual.ensures.0 (λ _. refl) }

pub returns : goal.returns
returns c =
    let fits = c.ranges.gap in
    record {
      value = search rules;
      law = judged _ _ _ _;
      after = set_means _ _ _ _ _ refl refl refl (to_z-of_z w32 _ fits) (answer_ok _ (sym (simp to_z-of_z at c.in_ok-check.ensures)));
    }
