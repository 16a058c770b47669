-- A rule that is set in place: what it means by its refusal.
use Rattle.std.proofs.Common.{◌≡◌, ℕ, true, false, List, is_ok, Some, None, Ok, Option, sym, refl, ap, ◌∙◌, subst, arith, rules}
use Rattle.rules.specs.declared.window.Window.{Window}
use Rattle.rules.specs.declared.verdict.Verdict.{Verdict}
use Rattle.rules.specs.declared.verdict.Verdict.TheVariants.{Open}
use Rattle.rules.specs.declared.fault.Fault.{Fault}
use Rattle.rules.specs.Refusals.{answer, window_refusal, Counted}
use Rattle.rules.specs.Meaning.{Meaning, meaning_if, fresh_rule, Narrowed}
use Rattle.rules.proofs.Trimming.{narrowed_at}
use Rattle.rules.proofs.Outcomes.{fresh_outcome}

pub none_if_ok : (o : Option Fault) → is_ok (answer o) ≡ true → o ≡ None
none_if_ok None e = refl
none_if_ok (Some f) e = search rules

pub set_if_none : (o : Option Fault) (m : Meaning) → o ≡ None → meaning_if o m ≡ m
set_if_none o m e = ap (λ f. meaning_if f m) e

pub fresh_if_not : (o : Option Fault) (m : Meaning) → is_ok (answer o) ≡ false → meaning_if o m ≡ fresh_rule
fresh_if_not None m e = search rules
fresh_if_not (Some f) m e = refl

pub counted_if : (o : Option Fault) (m : Meaning) → (o ≡ None → Counted m.scope.width) → Counted (meaning_if o m).scope.width
counted_if None m f = f refl
counted_if (Some g) m f = (omega arith, omega arith)

-- what narrow owes for a row that o refuses, and that else means m; the windows vs were not refused, by its number of columns n
module _ (o : Option Fault) (m : Meaning) (n : ℕ) (vs : List Window) (width : n ≡ (meaning_if o m).scope.width) (ok : window_refusal n vs ≡ None) where
  pub fresh_narrowed : is_ok (answer o) ≡ false → Narrowed (meaning_if o m) vs (Ok Open) vs
  fresh_narrowed e =
      let f = fresh_if_not o m e in
      narrowed_at (meaning_if o m) fresh_rule vs vs (Ok Open) (sym f) (fresh_outcome vs (subst (λ (k : ℕ). window_refusal k vs ≡ None) (width ∙ ap (λ (r : Meaning). r.scope.width) f) ok))

  pub taken_by : is_ok (answer o) ≡ true → window_refusal m.scope.width vs ≡ None
  taken_by e = subst (λ (k : ℕ). window_refusal k vs ≡ None) (width ∙ ap (λ (r : Meaning). r.scope.width) (set_if_none o m (none_if_ok o e))) ok

  pub set_narrowed : is_ok (answer o) ≡ true → (v : Verdict) (ws : List Window) → Narrowed m vs (Ok v) ws → Narrowed (meaning_if o m) vs (Ok v) ws
  set_narrowed e v ws h = narrowed_at (meaning_if o m) m vs ws (Ok v) (sym (set_if_none o m (none_if_ok o e))) h
