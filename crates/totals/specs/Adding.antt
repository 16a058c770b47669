-- Sums over the places of a list of columns.
use Rattle.std.specs.Prelude.{ℕ, zero, suc, ℤ, pos, ◌+ℤ◌}

-- f at 0, 1, .. up to n - 1, added
abbrev pub sum_to : ℕ → (ℕ → ℤ) → ℤ
sum_to zero f = pos 0
sum_to (suc n) f = sum_to n f +ℤ f n

-- the values x of the columns s a, added over n places a
abbrev pub total : ℕ → (ℕ → ℕ) → (ℕ → ℤ) → ℤ
total n s x = sum_to n (λ a. x (s a))
