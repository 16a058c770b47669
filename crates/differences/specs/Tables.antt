-- Distances between columns: d i j is the most by which column j may exceed column i.
use Rattle.std.specs.Prelude.{◌≡◌, ℕ, zero, suc, ◌<◌, Bool, true, ◌&&◌, List, [], ℤ, pos, negsuc, ◌+ℤ◌, ◌≤ℤ◌, int_le, slice_index_or}
use Rattle.rules.specs.Plans.{value_at}
use Rattle.rules.specs.Meaning.{Meaning, tight_rule}

-- the entry of a table of rows
abbrev pub entry : List (List ℤ) → ℕ → ℕ → ℤ
entry rows i j = slice_index_or (slice_index_or rows i []) j (pos 0)

-- from -60,000,000 to 60,000,000: two values never differ by more
abbrev pub Near : ℤ → Type 0
Near z = (negsuc 59999999 ≤ℤ z) × (z ≤ℤ pos 60000000)

-- the values x of k columns obey the distances
pub record Obeys (k : ℕ) (d : ℕ → ℕ → ℤ) (x : ℕ → ℤ) : Type 0 where
  pub link : (i j : ℕ) → i < k → j < k → x j ≤ℤ (x i +ℤ d i j)

-- no way through another column is shorter
pub record Closed (k : ℕ) (d : ℕ → ℕ → ℤ) : Type 0 where
  pub near : (i j : ℕ) → i < k → j < k → Near (d i j)
  pub zeros : (i : ℕ) → i < k → d i i ≡ pos 0
  pub short : (i m j : ℕ) → i < k → m < k → j < k → d i j ≤ℤ (d i m +ℤ d m j)

-- the test holds of each number below n
abbrev pub all_below : ℕ → (ℕ → Bool) → Bool
all_below zero p = true
all_below (suc n) p = p n && all_below n p

-- the plan x obeys the distances d between its first k columns
unfoldable pub obeys : ℕ → (ℕ → ℕ → ℤ) → List ℤ → Bool
obeys k d x = all_below k (λ i. all_below k (λ j. int_le (value_at x j) (value_at x i +ℤ d i j)))

-- the rule that allows the plans that obey the distances; its trims are tight and full
abbrev pub distance_meaning : ℕ → (ℕ → ℕ → ℤ) → Meaning
distance_meaning k d = tight_rule (record { width = k; allows = obeys k d }) true
