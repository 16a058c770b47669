-- A sum over columns that nothing binds.
use Rattle.std.proofs.Common.{◌≡◌, ℕ, suc, ◌<◌, eqb, List, ◌∷◌, length, sym, refl, ap, ◌∙◌, ⊎_elim, arith}
use Rattle.std.proofs.lemmas.Int.{ints}
use Rattle.std.proofs.lemmas.Bool.{eqb-true, eq-eqb, cases_lt}
use Rattle.rules.specs.Plans.{value_at}
use Rattle.differences.specs.Tables.{Closed}
use Rattle.totals.specs.Cuts.{column_at, Columns}
use Rattle.totals.specs.Sums.{sums, Distinct}
use Rattle.totals.specs.Orders.{unlinked_distance, Preorder, Totals}
use Rattle.totals.proofs.Adds.{sums-total, total-sums}
use Rattle.totals.proofs.Ordered.{order_closed}

self_alone : Preorder eqb
self_alone =
    record {
      self = λ i. eq-eqb i i refl;
      through = λ i m j h g. eq-eqb i j (eqb-true i m h ∙ eqb-true m j g);
    }

pub unlinked_closed : (k : ℕ) → Closed k unlinked_distance
unlinked_closed = order_closed eqb self_alone

-- no summand is the total, and no two of them are one column
pub total_apart : (t : ℕ) (ss : List ℕ) → Distinct (t ∷ ss) → (a : ℕ) → a < length ss → column_at ss a ≡ t → ⊥
total_apart t ss h a l e = h 0 (suc a) (omega arith) (omega arith) (sym e)

pub summands_apart : (t : ℕ) (ss : List ℕ) → Distinct (t ∷ ss) → Distinct ss
summands_apart t ss h a b l lb e = h (suc a) (suc b) (omega arith) (omega arith) e

pub same_place : (ss : List ℕ) → Distinct ss → (a b : ℕ) → a < length ss → b < length ss → (a ≡ b → ⊥) → column_at ss a ≡ column_at ss b → ⊥
same_place ss h a b la lb ne e = ⊎_elim (λ l. h a b l lb e) (λ l. h b a (omega arith) la (sym e)) (cases_lt a b)

pub plain_totals : (k t : ℕ) (ss : List ℕ) → t < k → Columns k ss → Distinct (t ∷ ss) → Totals k eqb t ss (sums t ss)
plain_totals k t ss ht there distinct =
    record {
      order = self_alone;
      there = ht;
      column = there.there;
      apart = total_apart t ss distinct;
      untied = λ a b la lb ne h g. same_place ss (summands_apart t ss distinct) a b la lb ne (eqb-true _ _ h);
      from = λ j hj h. eqb-true t j h;
      to = λ i hi h. eqb-true i t h;
      allows = λ x o e. total-sums t ss x e;
      ordered = λ x a. record { below = λ i j hi hj h. let e = ap (value_at x) (eqb-true i j h) in omega (arith, ints) };
      totals = sums-total t ss;
    }
