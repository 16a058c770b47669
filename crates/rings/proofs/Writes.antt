-- A loop that writes one place of a list after the other.
use Rattle.std.proofs.Common.{◌≡◌, ℕ, ◌+◌, ◌<◌, ◌≤◌, ◌≢◌, List, length, get_or, set, sym, ap, ◌∙◌, subst, ⊎_elim, arith, length-set, get_or-set_other, get_or-set_same}
use Rattle.std.proofs.lemmas.Bool.{cases_eq}

-- the first j places of now are as P says, and the others as they were
pub record Writes {X : Type 0} (d : X) (P : ℕ → X → Type 0) (old now : List X) (j : ℕ) : Type 0 where
  pub long : length now ≡ length old
  pub done : (q : ℕ) → q < j → P q (get_or now q d)
  pub rest : (q : ℕ) → j ≤ q → get_or now q d ≡ get_or old q d

module _ {X : Type 0} (d : X) (P : ℕ → X → Type 0) (old now : List X) where
  pub writes_none : now ≡ old → Writes d P old now 0
  writes_none e = record { long = ap length e; done = λ q l. absurd (omega arith); rest = λ q l. ap (λ (xs : List X). get_or xs q d) e }

  pub writes_more : (j : ℕ) (v : X) → j < length old → Writes d P old now j → P j v → Writes d P old (set now j v) (j + 1)
  writes_more j v l w p =
      let lt : j < length now = omega (arith, w.long) in
      record {
        long = length-set now j v ∙ w.long;
        done = λ q h. ⊎_elim
            (λ e. subst (λ (n : ℕ). P n (get_or (set now j v) n d)) (sym e) (subst (P j) (sym (get_or-set_same now j v d lt)) p))
            (λ ne. subst (P q) (sym (get_or-set_other now j q v d ne)) (w.done q (omega arith)))
            (cases_eq q j);
        rest = λ q h. let ne : q ≢ j = omega arith in get_or-set_other now j q v d ne ∙ w.rest q (omega arith);
      }
