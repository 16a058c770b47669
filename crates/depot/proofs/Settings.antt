-- Which settings are refused, and by what.
use Rattle.std.proofs.Common.{◌≡◌, ℕ, ◌<◌, true, false, None, Ok, Option, sym, ap, subst, arith, rules}
use Rattle.std.proofs.lemmas.Bool.{lt-ltb, le-ltb, le-leb, lt-leb}
use Rattle.std.proofs.lemmas.Bool.Decides.{nat_tests}
use Rattle.rules.specs.declared.fault.Fault.{Fault}
use Rattle.rules.specs.Refusals.{answer, counted, Counted}
use Rattle.rules.proofs.Failing.{answer_ok}
use Rattle.depot.specs.Quarters.{hours_refusal, HoursJudged, column_count, no_column, never_open, accepted}

counted_is : (k : ℕ) → Counted k → counted k ≡ true
counted_is k c = grind (arith, nat_tests)

module _ (columns column opens closes : ℕ) where
  -- the words say which fault it is
  refusal_is : (o : Option Fault) → HoursJudged columns column opens closes o → hours_refusal columns column opens closes ≡ o
  unfolding hours_refusal
  refusal_is _ (column_count n) = let e : counted columns ≡ false = grind (arith, nat_tests) in rw e
  refusal_is _ (no_column c l) = rw (counted_is columns c, le-ltb column columns l)
  refusal_is _ (never_open c l o) = rw (counted_is columns c, lt-ltb column columns l, lt-leb opens closes o)
  refusal_is _ (accepted c l o) = rw (counted_is columns c, lt-ltb column columns l, le-leb opens closes o)

  -- what a check owes that found the fault o, or none
  pub answered : (o : Option Fault) → HoursJudged columns column opens closes o → (answer o ≡ answer (hours_refusal columns column opens closes)) × HoursJudged columns column opens closes (hours_refusal columns column opens closes)
  answered o words = let e = refusal_is o words in (ap answer (sym e), subst (HoursJudged columns column opens closes) (sym e) words)

  -- a setting that is not refused
  by_words : (o : Option Fault) → o ≡ None → HoursJudged columns column opens closes o → Counted columns × (column < columns)
  by_words _ e (column_count n) = search rules
  by_words _ e (no_column c l) = search rules
  by_words _ e (never_open c l o) = search rules
  by_words _ e (accepted c l o) = (c, l)

  pub set_facts : answer (hours_refusal columns column opens closes) ≡ Ok tt → HoursJudged columns column opens closes (hours_refusal columns column opens closes) → Counted columns × (column < columns)
  set_facts e words = by_words (hours_refusal columns column opens closes) (answer_ok _ e) words
