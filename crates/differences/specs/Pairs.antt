-- Two columns alone: what a relation between their values leaves of their windows.
use Rattle.std.specs.Prelude.{◌≡◌, Bool, true, ℤ, ◌≤ℤ◌, Some, None, Option}
use Rattle.rules.specs.declared.window.Window.{Window}
-- passed on: the least window that holds two
pub use Rattle.rules.specs.Plans.{spanned}

-- the value x lies in the window w
abbrev pub In : Window → ℤ → Type 0
In w x = (w.first ≤ℤ x) × (x ≤ℤ w.last)

-- the window v lies in the window w
abbrev pub Inside : Window → Window → Type 0
Inside v w = (w.first ≤ℤ v.first) × (v.last ≤ℤ w.last)

-- a related pair of values: x in the window a, and y in b
pub record Pair (R : ℤ → ℤ → Bool) (a b : Window) (x y : ℤ) : Type 0 where
  pub related : R x y ≡ true
  pub one : In a x
  pub other : In b y

-- v and w are what R leaves of a and b: inside them, with every related pair, and each end in such a pair
pub record PairLeft (R : ℤ → ℤ → Bool) (a b v w : Window) : Type 0 where
  pub one_within : Inside v a
  pub other_within : Inside w b
  pub keeps : (x y : ℤ) → Pair R a b x y → Pair R v w x y
  pub one_first : (y : ℤ) × Pair R v w v.first y
  pub one_last : (y : ℤ) × Pair R v w v.last y
  pub other_first : (x : ℤ) × Pair R v w x w.first
  pub other_last : (x : ℤ) × Pair R v w x w.last

-- nothing where no pair of the two windows is related, else what R leaves of them
abbrev pub PairLeaves : (ℤ → ℤ → Bool) → Window → Window → Option (Window × Window) → Type 0
PairLeaves R a b None = (x y : ℤ) → Pair R a b x y → ⊥
PairLeaves R a b (Some (v, w)) = PairLeft R a b v w
