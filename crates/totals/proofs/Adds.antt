-- A sum as the list of its summands has it, and as their places have it.
use Rattle.std.proofs.Common.{◌≡◌, ℕ, zero, suc, true, List, [], ◌∷◌, length, ℤ, ◌+ℤ◌, refl, arith}
use Rattle.std.proofs.lemmas.Int.{ints}
use Rattle.rules.specs.Plans.{value_at}
use Rattle.totals.specs.Adding.{sum_to, total}
use Rattle.totals.specs.Cuts.{column_at}
use Rattle.totals.specs.Sums.{added_up, sums}

-- the first place in front of the others
pub sum_front : (n : ℕ) (f : ℕ → ℤ) → sum_to (suc n) f ≡ f 0 +ℤ sum_to n (λ a. f (suc a))
sum_front zero f = omega (arith, ints)
sum_front (suc n) f = let r = sum_front n f in omega (arith, ints)

pub added_total : (ss : List ℕ) (x : List ℤ) → added_up ss x ≡ total (length ss) (column_at ss) (value_at x)
added_total [] x = refl
added_total (s ∷ ss) x =
    let r = added_total ss x in
    let e = sum_front (length ss) (λ a. value_at x (column_at (s ∷ ss) a)) in
    omega (arith, ints)

-- a plan meets the sum where its total is that of the summands' places
pub sums-total : (t : ℕ) (ss : List ℕ) (x : List ℤ) → sums t ss x ≡ true → value_at x t ≡ total (length ss) (column_at ss) (value_at x)
sums-total t ss x h = let e = added_total ss x in let s : value_at x t ≡ added_up ss x = grind (arith, ints) in omega (arith, ints)

pub total-sums : (t : ℕ) (ss : List ℕ) (x : List ℤ) → value_at x t ≡ total (length ss) (column_at ss) (value_at x) → sums t ss x ≡ true
total-sums t ss x h = let e = added_total ss x in let s : value_at x t ≡ added_up ss x = omega (arith, ints) in grind (arith, ints)
