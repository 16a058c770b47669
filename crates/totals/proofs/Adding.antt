-- Sums over places: how they compare.
use Rattle.std.proofs.Common.{◌≡◌, ℕ, zero, suc, ◌<◌, ◌⊎◌, ℤ, ◌+ℤ◌, ◌-ℤ◌, ◌≤ℤ◌, ◌<ℤ◌, ap, inl, inr, arith}
use native.Mathlib.Decide.{dec_lt, ℕ_discrete}
use Rattle.std.proofs.lemmas.Int.{ints, by_lt_z}
use Rattle.totals.specs.Adding.{sum_to}

pub sum_mono : (n : ℕ) (f g : ℕ → ℤ) → ((a : ℕ) → a < n → f a ≤ℤ g a) → sum_to n f ≤ℤ sum_to n g
sum_mono zero f g h = omega (arith, ints)
sum_mono (suc n) f g h = omega (arith, ints, sum_mono n f g (λ a l. h a (omega arith)), h n (omega arith))

-- one place where they differ makes the sums differ
pub sum_gap : (n : ℕ) (f g : ℕ → ℤ) (p : ℕ) → p < n → ((a : ℕ) → a < n → f a ≤ℤ g a) → (sum_to n f +ℤ (g p -ℤ f p)) ≤ℤ sum_to n g
sum_gap zero f g p hp h = absurd (omega arith)
sum_gap (suc n) f g p hp h =
    elim (dec_lt p n) [
      | yes l ↦ omega (arith, ints, sum_gap n f g p l (λ a l. h a (omega arith)), h n (omega arith))
      | no l ↦ let e : p ≡ n = omega arith in omega (arith, ints, sum_mono n f g (λ a l. h a (omega arith)), ap f e, ap g e)
    ]

-- if they differ at place p alone
pub sum_one : (n : ℕ) (f g : ℕ → ℤ) (p : ℕ) → f p ≤ℤ g p → ((a : ℕ) → a < n → ¬ (a ≡ p) → g a ≤ℤ f a) → sum_to n g ≤ℤ (sum_to n f +ℤ (g p -ℤ f p))
sum_one zero f g p hp h = omega (arith, ints)
sum_one (suc n) f g p hp h =
    elim (ℕ_discrete n p) [
      | yes e ↦ omega (arith, ints, sum_mono n g f (λ a l. h a (omega arith) (omega arith)), ap f e, ap g e)
      | no ne ↦ omega (arith, ints, sum_one n f g p hp (λ a l. h a (omega arith)), h n (omega arith) ne)
    ]

-- some place where f is below g, or none
abbrev pub Gap : ℕ → (ℕ → ℤ) → (ℕ → ℤ) → ℕ → Type 0
Gap n f g p = (a : ℕ) × (a < n) × (¬ (a ≡ p)) × (f a <ℤ g a)

pub find_gap : (n : ℕ) (f g : ℕ → ℤ) (p : ℕ) → Gap n f g p ⊎ ((a : ℕ) → a < n → ¬ (a ≡ p) → g a ≤ℤ f a)
find_gap zero f g p = inr (λ a l. absurd (omega arith))
find_gap (suc n) f g p =
    elim (find_gap n f g p) [
      | inl (a, l, ne, h) ↦ inl (a, omega arith, ne, h)
      | inr none ↦ elim (ℕ_discrete n p) [
        | yes e ↦ inr (λ a l ne. none a (omega arith) ne)
        | no ne ↦ by_lt_z (f n) (g n) (λ h. inl (n, omega arith, ne, h))
            (λ h. inr (λ a l ne'. elim (dec_lt a n) [ yes l' ↦ none a l' ne' | no l' ↦ let e : a ≡ n = omega arith in omega (arith, ints, h, ap f e, ap g e) ]))
      ]
    ]
