-- Obeying distances, as a test of plans and entry by entry.
use Rattle.std.proofs.Common.{◌≡◌, ℕ, zero, suc, ◌<◌, Bool, true, List, ℤ, ◌+ℤ◌, ◌≤ℤ◌, refl, arith}
use native.Mathlib.Decide.{dec_lt}
use lib.Signed.{le_z}
use Rattle.std.proofs.lemmas.Int.{ints}
use Rattle.std.proofs.lemmas.Bool.{and_parts, and_from}
use Rattle.rules.specs.Plans.{value_at}
use Rattle.differences.specs.Tables.{Obeys, all_below, obeys}

pub below_all : (n : ℕ) (p : ℕ → Bool) → all_below n p ≡ true → (i : ℕ) → i < n → p i ≡ true
below_all zero p h i l = absurd (omega arith)
below_all (suc n) p h i l =
    elim (dec_lt i n) [
      | yes g ↦ below_all n p (and_parts _ _ h).1 i g
      | no g ↦ let e : i ≡ n = omega arith in rw e (and_parts _ _ h).0
    ]

pub all_of : (n : ℕ) (p : ℕ → Bool) → ((i : ℕ) → i < n → p i ≡ true) → all_below n p ≡ true
all_of zero p h = refl
all_of (suc n) p h = and_from _ _ (h n (omega arith)) (all_of n p (λ i l. h i (omega arith)))

pub test_true : (a b : ℤ) → le_z a b ≡ true → a ≤ℤ b
test_true a b h = grind (arith, ints)

pub true_test : (a b : ℤ) → a ≤ℤ b → le_z a b ≡ true
true_test a b h = grind (arith, ints)

module _ (k : ℕ) (d : ℕ → ℕ → ℤ) (x : List ℤ) where
  pub obeys_each : obeys k d x ≡ true → Obeys k d (value_at x)
  unfolding obeys
  obeys_each h =
      record { link = λ i j hi hj. test_true _ _ (below_all k (λ j. le_z (value_at x j) (value_at x i +ℤ d i j)) (below_all k (λ i. all_below k (λ j. le_z (value_at x j) (value_at x i +ℤ d i j))) h i hi) j hj) }

  pub each_obeys : Obeys k d (value_at x) → obeys k d x ≡ true
  unfolding obeys
  each_obeys o = all_of k _ (λ i hi. all_of k _ (λ j hj. true_test _ _ (o.link i j hi hj)))
