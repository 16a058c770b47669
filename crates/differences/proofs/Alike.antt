-- Two rules that allow the same plans in the windows narrow them alike.
use Rattle.std.proofs.Common.{◌≡◌, ℕ, Bool, true, List, ℤ, None, Ok, Err, Result, sym, refl, ◌∙◌, subst, arith}
use Rattle.std.proofs.lemmas.List.{take_all}
use Rattle.rules.specs.declared.window.Window.{Window}
use Rattle.rules.specs.declared.fault.Fault.{Fault}
use Rattle.rules.specs.declared.verdict.Verdict.{Verdict}
use Rattle.rules.specs.declared.verdict.Verdict.TheVariants.{Open, Void}
use Rattle.rules.specs.Plans.{lies, firsts, Supported, Trimmed}
use Rattle.rules.specs.Refusals.{window_refusal}
use Rattle.rules.specs.Meaning.{Narrowed, tight_rule}
use Rattle.rules.proofs.Windows.{lies-inside, inside-length, firsts_lie}
use Rattle.rules.proofs.Failing.{taken}

-- A and B agree on the plans in ws
module _ (A B : List ℤ → Bool) (ws : List Window) (same : (x : List ℤ) → lies x ws ≡ true → A x ≡ B x) where
  supported : (i : ℕ) (v : ℤ) → Supported B ws i v → Supported A ws i v
  supported i v s = record { plan = s.plan; allowed = same s.plan s.there ∙ s.allowed; there = s.there; at = s.at }

  trimmed : Trimmed B ws → Trimmed A ws
  trimmed t = record { first_end = λ i l. supported i _ (t.first_end i l); last_end = λ i l. supported i _ (t.last_end i l) }

-- A and B agree on the plans in windows that are taken
module _ (k : ℕ) (A B : List ℤ → Bool) (vs : List Window) (same : window_refusal k vs ≡ None → (x : List ℤ) → lies x vs ≡ true → A x ≡ B x) (full : Bool) where
  pub narrowed_alike : (r : Result Verdict Fault) (ws : List Window) → Narrowed (tight_rule (record { width = k; allows = B }) full) vs r ws → Narrowed (tight_rule (record { width = k; allows = A }) full) vs r ws
  narrowed_alike (Ok Open) ws n =
      let (law, long) = taken k vs n.accepted in
      let there : (x : List ℤ) → lies x ws ≡ true → A x ≡ B x = λ x h. same n.accepted x (lies-inside x ws vs h n.shrinks) in
      let ends = trimmed A B ws there (n.ends refl) in
      record {
        accepted = n.accepted;
        lawful_after = n.lawful_after;
        shrinks = n.shrinks;
        keeps = λ x a h. n.keeps x (sym (same n.accepted x h) ∙ a) h;
        decides = λ s. same n.accepted (firsts vs) (firsts_lie vs law) ∙ n.decides s;
        ends = λ _. ends;
        values = λ f. record { each = λ i v l low high. supported A B ws there i v ((n.values f).each i v l low high) };
        settles = (subst (λ (us : List Window). Trimmed A us) (sym (take_all k ws (omega (arith, inside-length ws vs n.shrinks)))) ends, tt);
      }
  narrowed_alike (Ok Void) ws n = record { accepted = n.accepted; stays = n.stays; none = λ x a h. n.none x (sym (same n.accepted x h) ∙ a) h }
  narrowed_alike (Err f) ws n = record { because = n.because; stays = n.stays }
