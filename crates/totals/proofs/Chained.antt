-- A sum whose summands never fall.
use Rattle.std.proofs.Common.{◌≡◌, ℕ, zero, suc, ◌<◌, ◌≤◌, Bool, true, eqb, List, [], ◌∷◌, length, ℤ, ◌≤ℤ◌, Some, None, Option, sym, refl, ap, ◌∙◌, subst, ⊎_elim, arith}
use lib.Signed.{le_z}
use Rattle.std.proofs.lemmas.Int.{ints}
use Rattle.std.proofs.lemmas.Bool.{cases_eq, and_parts, and_from, or_cases, or_left, or_right, eqb-true, eq-eqb, leb-true, le-leb, both_ways}
use Rattle.rules.specs.Plans.{value_at}
use Rattle.differences.specs.Tables.{Closed}
use Rattle.totals.specs.Cuts.{column_at, Columns}
use Rattle.totals.specs.Sums.{sums, Distinct}
use Rattle.totals.specs.Orders.{place_of, no_later, not_after, chain_distance, Placed, Preorder, InOrder, Totals}
use Rattle.totals.specs.Rising.{rising_from, rising, rising_sum}
use Rattle.totals.proofs.Adds.{sums-total, total-sums}
use Rattle.totals.proofs.Ordered.{order_closed}
use Rattle.totals.proofs.Plain.{total_apart}

-- two columns that have places, and that of j is not after that of i
record Later (places : List (Option ℕ)) (i j : ℕ) : Type 0 where
  at : ℕ
  before : ℕ
  here : place_of places i ≡ Some at
  there : place_of places j ≡ Some before
  after : before ≤ at

later_places : (places : List (Option ℕ)) (i j : ℕ) (p q : Option ℕ) → place_of places i ≡ p → place_of places j ≡ q → no_later q p ≡ true → Later places i j
later_places places i j p None e f h = absurd (both_ways _ refl h)
later_places places i j None (Some b) e f h = absurd (both_ways _ refl h)
later_places places i j (Some a) (Some b) e f h = record { at = a; before = b; here = e; there = f; after = leb-true b a h }

later_than : (places : List (Option ℕ)) (i j : ℕ) → not_after places i j ≡ true → (i ≡ j → ⊥) → Later places i j
later_than places i j h ne =
    ⊎_elim
    (λ e. absurd (ne (eqb-true i j e)))
    (λ l. later_places places i j (place_of places i) (place_of places j) refl refl l)
    (or_cases (eqb i j) (no_later (place_of places j) (place_of places i)) h)

is_later : (places : List (Option ℕ)) (i j a b : ℕ) → place_of places i ≡ Some a → place_of places j ≡ Some b → b ≤ a → not_after places i j ≡ true
is_later places i j a b e f l =
    or_right (eqb i j) (no_later (place_of places j) (place_of places i))
    ((λ n. no_later (f n) (e n)) ∙ le-leb b a l)

chain_order : (places : List (Option ℕ)) → Preorder (not_after places)
chain_order places =
    record {
      self = λ i. or_left (eqb i i) (no_later (place_of places i) (place_of places i)) (eq-eqb i i refl);
      through = λ i m j h g.
          ⊎_elim
          (λ e. subst (λ (n : ℕ). not_after places n j ≡ true) (sym e) g)
          (λ ne. ⊎_elim
          (λ e. subst (λ (n : ℕ). not_after places i n ≡ true) e h)
          (λ no.
          let p = later_than places i m h ne in
          let q = later_than places m j g no in
          let same : p.before ≡ q.at = cc (sym p.there ∙ q.here) in
          is_later places i j p.at q.before p.here q.there (omega (arith, p.after, q.after)))
          (cases_eq m j))
          (cases_eq i m);
    }

pub chain_closed : (places : List (Option ℕ)) (k : ℕ) → Closed k (chain_distance places)
chain_closed places = order_closed (not_after places) (chain_order places)

-- from v on the columns never fall: none is below v, and none is below one that stands before it
from_low : (v : ℤ) (ss : List ℕ) (x : List ℤ) → rising_from v ss x ≡ true → (b : ℕ) → b < length ss → v ≤ℤ value_at x (column_at ss b)
from_low v [] x h b l = absurd (omega arith)
from_low v (s ∷ ss) x h zero l = grind (arith, ints)
from_low v (s ∷ ss) x h (suc b) l =
    let (p, q) = and_parts (le_z v (value_at x s)) (rising_from (value_at x s) ss x) h in
    let r = from_low (value_at x s) ss x q b (omega arith) in
    grind (arith, ints)

abbrev Upward : List ℕ → List ℤ → Type 0
Upward ss x = (a b : ℕ) → a ≤ b → b < length ss → value_at x (column_at ss a) ≤ℤ value_at x (column_at ss b)

from_upward : (v : ℤ) (ss : List ℕ) (x : List ℤ) → rising_from v ss x ≡ true → Upward ss x
from_upward v [] x h a b ab l = absurd (omega arith)
from_upward v (s ∷ ss) x h zero zero ab l = omega (arith, ints)
from_upward v (s ∷ ss) x h zero (suc b) ab l =
    from_low (value_at x s) ss x (and_parts (le_z v (value_at x s)) (rising_from (value_at x s) ss x) h).1 b (omega arith)
from_upward v (s ∷ ss) x h (suc a) zero ab l = absurd (omega arith)
from_upward v (s ∷ ss) x h (suc a) (suc b) ab l =
    from_upward (value_at x s) ss x (and_parts (le_z v (value_at x s)) (rising_from (value_at x s) ss x) h).1 a b (omega arith) (omega arith)

rising_upward : (ss : List ℕ) (x : List ℤ) → rising ss x ≡ true → Upward ss x
rising_upward [] x h a b ab l = absurd (omega arith)
rising_upward (s ∷ ss) x h a b ab l =
    from_upward (value_at x s) (s ∷ ss) x (and_from (le_z (value_at x s) (value_at x s)) (rising_from (value_at x s) ss x) (grind (arith, ints)) h) a b ab l

upward_from : (v : ℤ) (ss : List ℕ) (x : List ℤ) → ((b : ℕ) → b < length ss → v ≤ℤ value_at x (column_at ss b)) → Upward ss x → rising_from v ss x ≡ true
upward_from v [] x low up = refl
upward_from v (s ∷ ss) x low up =
    let first = low 0 (omega arith) in
    and_from (le_z v (value_at x s)) (rising_from (value_at x s) ss x) (grind (arith, ints))
    (upward_from (value_at x s) ss x (λ b l. up 0 (suc b) (omega arith) (omega arith)) (λ a b ab l. up (suc a) (suc b) (omega arith) (omega arith)))

upward_rising : (ss : List ℕ) (x : List ℤ) → Upward ss x → rising ss x ≡ true
upward_rising [] x up = refl
upward_rising (s ∷ ss) x up =
    upward_from (value_at x s) ss x (λ b l. up 0 (suc b) (omega arith) (omega arith)) (λ a b ab l. up (suc a) (suc b) (omega arith) (omega arith))

module _ (k t : ℕ) (ss : List ℕ) (places : List (Option ℕ)) (ht : t < k) (there : Columns k ss) (distinct : Distinct (t ∷ ss)) (P : Placed ss places) where
  abbrev R : ℕ → ℕ → Bool
  R = not_after places

  -- the total has no place
  total_unplaced : (a : ℕ) → place_of places t ≡ Some a → ⊥
  total_unplaced a h = total_apart t ss distinct a (P.within t a h) (P.stands t a h)

  -- a summand that stands after another is later
  summand_later : (a b : ℕ) → a ≤ b → b < length ss → R (column_at ss b) (column_at ss a) ≡ true
  summand_later a b ab l = is_later places (column_at ss b) (column_at ss a) b a (P.own b l) (P.own a (omega arith)) ab

  not_later : (a b : ℕ) → a < length ss → b < length ss → R (column_at ss b) (column_at ss a) ≡ true → a ≤ b
  not_later a b la lb h =
      ⊎_elim
      (λ e. let s : b ≡ a = cc (sym (P.own b lb) ∙ ap (place_of places) e ∙ P.own a la) in omega arith)
      (λ ne.
      let l = later_than places (column_at ss b) (column_at ss a) h ne in
      let p : a ≡ l.before = cc (sym (P.own a la) ∙ l.there) in
      let q : b ≡ l.at = cc (sym (P.own b lb) ∙ l.here) in
      omega (arith, l.after))
      (cases_eq (column_at ss b) (column_at ss a))

  in_order : (x : List ℤ) → Upward ss x → InOrder k R (value_at x)
  in_order x up =
      record {
        below = λ i j hi hj h.
            ⊎_elim
            (λ e. let g = ap (value_at x) e in omega (arith, ints))
            (λ ne.
            let l = later_than places i j h ne in
            let u = up l.before l.at l.after (P.within i l.at l.here) in
            let p = ap (value_at x) (P.stands i l.at l.here) in
            let q = ap (value_at x) (P.stands j l.before l.there) in
            omega (arith, ints))
            (cases_eq i j);
      }

  upward : (x : List ℤ) → InOrder k R (value_at x) → Upward ss x
  upward x o a b ab l = o.below (column_at ss b) (column_at ss a) (there.there b l) (there.there a (omega arith)) (summand_later a b ab l)

  from_total : (j : ℕ) → R t j ≡ true → t ≡ j
  from_total j h = ⊎_elim (λ e. e) (λ ne. let l = later_than places t j h ne in absurd (total_unplaced l.at l.here)) (cases_eq t j)

  to_total : (i : ℕ) → R i t ≡ true → i ≡ t
  to_total i h = ⊎_elim (λ e. e) (λ ne. let l = later_than places i t h ne in absurd (total_unplaced l.before l.there)) (cases_eq i t)

  pub rising_totals : Totals k (not_after places) t ss (rising_sum t ss)
  rising_totals =
      record {
        order = chain_order places;
        there = ht;
        column = there.there;
        apart = total_apart t ss distinct;
        untied = λ a b la lb ne h g. ne (omega (arith, not_later b a lb la h, not_later a b la lb g));
        from = λ j hj h. from_total j h;
        to = λ i hi h. to_total i h;
        allows = λ x o e. and_from (rising ss x) (sums t ss x) (upward_rising ss x (upward x o)) (total-sums t ss x e);
        ordered = λ x a. in_order x (rising_upward ss x (and_parts (rising ss x) (sums t ss x) a).0);
        totals = λ x a. sums-total t ss x (and_parts (rising ss x) (sums t ss x) a).1;
      }
