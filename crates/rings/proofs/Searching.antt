-- A search over the columns.
use Rattle.std.proofs.Common.{◌≡◌, ℕ, ◌<◌, ◌≤◌, Bool, true, false, Some, None, Option, arith, MatchOption}
use Rattle.rings.specs.Tables.{FirstBelow}

pub first_below : (k : ℕ) (f : ℕ → Bool) (r : Option ℕ)
    → MatchOption r ((i : ℕ) → 0 ≤ i → i < k → f i ≡ false) (λ i. (0 ≤ i) × (i < k) × (f i ≡ true) × ((j : ℕ) → 0 ≤ j → j < i → f j ≡ false))
    → FirstBelow k f r
first_below k f None h = λ i l. h i (omega arith) l
first_below k f (Some i) h = (h.1, h.2, λ j l. h.3 j (omega arith) l)
