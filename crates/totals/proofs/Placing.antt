-- A loop that writes the places of columns.
use Rattle.std.proofs.Common.{◌≡◌, ℕ, ◌+◌, ◌<◌, List, length, set, replicate, Some, None, Option, sym, refl, ap, ◌∙◌, ⊎_elim, arith, length-set, get_or-set_other, get_or-set_same}
use Rattle.std.proofs.lemmas.List.{get_or-replicate, get_or_past}
use Rattle.std.proofs.lemmas.Bool.{cases_eq, cases_lt}
use Rattle.totals.specs.Cuts.{column_at}
use Rattle.totals.specs.Sums.{Distinct}
use Rattle.totals.specs.Orders.{place_of, Placed}

-- the places of the first n columns are written
pub record Placing (ss : List ℕ) (places : List (Option ℕ)) (n : ℕ) : Type 0 where
  pub long : length places ≡ 32
  pub own : (a : ℕ) → a < n → place_of places (column_at ss a) ≡ Some a
  pub within : (c a : ℕ) → place_of places c ≡ Some a → a < n
  pub stands : (c a : ℕ) → place_of places c ≡ Some a → column_at ss a ≡ c

-- no column has a place yet
none_placed : (c a : ℕ) → place_of (replicate 32 None) c ≡ Some a → ⊥
none_placed c a h =
    ⊎_elim
    (λ l. let e : ◌≡◌ {A = Option ℕ} (Some a) None = sym h ∙ get_or-replicate 32 c None None l in let z : ◌≡◌ {A = ℕ} 0 1 = cc in omega arith)
    (λ l. let e : ◌≡◌ {A = Option ℕ} (Some a) None = sym h ∙ get_or_past (replicate 32 None) c None l in let z : ◌≡◌ {A = ℕ} 0 1 = cc in omega arith)
    (cases_lt c 32)

pub placing_none : (ss : List ℕ) → Placing ss (replicate 32 None) 0
placing_none ss =
    record {
      long = refl;
      own = λ a l. absurd (omega arith);
      within = λ c a h. absurd (none_placed c a h);
      stands = λ c a h. absurd (none_placed c a h);
    }

pub placing_more : (ss : List ℕ) (places : List (Option ℕ)) (n : ℕ) → n < length ss → column_at ss n < 32 → Distinct ss → Placing ss places n → Placing ss (set places (column_at ss n) (Some n)) (n + 1)
placing_more ss places n lt there distinct p =
    let s = column_at ss n in
    let new = set places s (Some n) in
    let here : place_of new s ≡ Some n = get_or-set_same places s (Some n) None (omega (arith, p.long)) in
    let other : (c : ℕ) → (c ≡ s → ⊥) → place_of new c ≡ place_of places c = λ c ne. get_or-set_other places s c (Some n) None ne in
    record {
      long = length-set places s (Some n) ∙ p.long;
      own = λ a l.
          ⊎_elim
          (λ e. ap (λ (b : ℕ). place_of new (column_at ss b)) e ∙ here ∙ ap Some (sym e))
          (λ ne. other (column_at ss a) (distinct a n (omega arith) lt) ∙ p.own a (omega arith))
          (cases_eq a n);
      within = λ c a h.
          ⊎_elim
          (λ e. let g : n ≡ a = cc (sym (ap (place_of new) e ∙ here) ∙ h) in omega arith)
          (λ ne. let w = p.within c a (sym (other c ne) ∙ h) in omega arith)
          (cases_eq c s);
      stands = λ c a h.
          ⊎_elim
          (λ e. let g : n ≡ a = cc (sym (ap (place_of new) e ∙ here) ∙ h) in ap (column_at ss) (sym g) ∙ sym e)
          (λ ne. p.stands c a (sym (other c ne) ∙ h))
          (cases_eq c s);
    }

pub placing_all : (ss : List ℕ) (places : List (Option ℕ)) (n : ℕ) → n ≡ length ss → Placing ss places n → Placed ss places
placing_all ss places n e p =
    record {
      own = λ a l. p.own a (omega arith);
      within = λ c a h. let w = p.within c a h in omega arith;
      stands = p.stands;
    }
