-- Distances by an order of columns: where the order says so, column j is at most column i.
use Rattle.std.specs.Prelude.{◌≡◌, ℕ, ◌<◌, Bool, true, false, cond, ◌||◌, List, length, ℤ, pos, ◌≤ℤ◌, Some, None, Option, ◌==◌, nat_eq, nat_le, slice_index_or}
use Rattle.rules.specs.Plans.{value_at}
use Rattle.totals.specs.Adding.{total}
use Rattle.totals.specs.Cuts.{column_at}

-- 0 where the order binds the two columns, else 60,000,000, which binds no two values
abbrev pub order_distance : (ℕ → ℕ → Bool) → ℕ → ℕ → ℤ
order_distance R i j = cond (R i j) (pos 0) (pos 60000000)

-- the order that binds a column to itself alone
abbrev pub unlinked_distance : ℕ → ℕ → ℤ
unlinked_distance = order_distance nat_eq

-- the place of a column in the order, or none
abbrev pub place_of : List (Option ℕ) → ℕ → Option ℕ
place_of places i = slice_index_or places i None

-- both places are there, and the first is not after the second
abbrev pub no_later : Option ℕ → Option ℕ → Bool
no_later None q = false
no_later (Some p) None = false
no_later (Some p) (Some q) = nat_le p q

-- column j is column i, or both have places and that of j is not after that of i
abbrev pub not_after : List (Option ℕ) → ℕ → ℕ → Bool
not_after places i j = i == j || no_later (place_of places j) (place_of places i)

abbrev pub chain_distance : List (Option ℕ) → ℕ → ℕ → ℤ
chain_distance places = order_distance (not_after places)

-- the places of the summands: each has its own, and a column that has a place is the summand that stands there
pub record Placed (ss : List ℕ) (places : List (Option ℕ)) : Type 0 where
  pub own : (a : ℕ) → a < length ss → place_of places (column_at ss a) ≡ Some a
  pub within : (c a : ℕ) → place_of places c ≡ Some a → a < length ss
  pub stands : (c a : ℕ) → place_of places c ≡ Some a → column_at ss a ≡ c

-- the order binds each column to itself, and through a third column
pub record Preorder (R : ℕ → ℕ → Bool) : Type 0 where
  pub self : (i : ℕ) → R i i ≡ true
  pub through : (i m j : ℕ) → R i m ≡ true → R m j ≡ true → R i j ≡ true

-- the values x of k columns never break the order
pub record InOrder (k : ℕ) (R : ℕ → ℕ → Bool) (x : ℕ → ℤ) : Type 0 where
  pub below : (i j : ℕ) → i < k → j < k → R i j ≡ true → x j ≤ℤ x i

-- A allows the plans in order whose column t is the total of the columns ss, and the order binds column t to no other column and no
-- two summands both ways
pub record Totals (k : ℕ) (R : ℕ → ℕ → Bool) (t : ℕ) (ss : List ℕ) (A : List ℤ → Bool) : Type 0 where
  pub order : Preorder R
  pub there : t < k
  pub column : (a : ℕ) → a < length ss → column_at ss a < k
  pub apart : (a : ℕ) → a < length ss → column_at ss a ≡ t → ⊥
  pub untied : (a b : ℕ) → a < length ss → b < length ss → (a ≡ b → ⊥) → R (column_at ss a) (column_at ss b) ≡ true → R (column_at ss b) (column_at ss a) ≡ true → ⊥
  pub from : (j : ℕ) → j < k → R t j ≡ true → t ≡ j
  pub to : (i : ℕ) → i < k → R i t ≡ true → i ≡ t
  pub allows : (x : List ℤ) → InOrder k R (value_at x) → value_at x t ≡ total (length ss) (column_at ss) (value_at x) → A x ≡ true
  pub ordered : (x : List ℤ) → A x ≡ true → InOrder k R (value_at x)
  pub totals : (x : List ℤ) → A x ≡ true → value_at x t ≡ total (length ss) (column_at ss) (value_at x)

-- the distances follow an order of k columns with which A allows the totals of the summands
pub record Follows (k t : ℕ) (ss : List ℕ) (A : List ℤ → Bool) (width : ℕ) (d : ℕ → ℕ → ℤ) : Type 0 where
  pub width_is : width ≡ k
  pub order : ℕ → ℕ → Bool
  pub by_order : d ≡ order_distance order
  pub totals : Totals k order t ss A
