-- How far a total reaches when one column stands at v: each summand is at most its top, and at most v plus its way.
use Rattle.std.specs.Prelude.{◌≡◌, ℕ, zero, suc, ◌+◌, ◌*◌, ◌<◌, cond, List, [], ◌∷◌, length, ℤ, pos, negsuc, ◌+ℤ◌, ◌≤ℤ◌, ◌<ℤ◌, int_lt, slice_index_or}
use Rattle.std.specs.Int.{int_min}
use Rattle.totals.specs.declared.reaching.Limit.{Limit}

-- the limit of summand a
abbrev pub limit_at : List Limit → ℕ → Limit
limit_at ls a = slice_index_or ls a (record { top = pos 0; way = pos 0 })

abbrev pub number_at : List ℤ → ℕ → ℤ
number_at xs a = slice_index_or xs a (pos 0)

-- a row of tops and a row of ways, as limits
abbrev pub limits : List ℤ → List ℤ → List Limit
limits [] ways = []
limits (top ∷ tops) [] = []
limits (top ∷ tops) (way ∷ ways) = record { top = top; way = way } ∷ limits tops ways

-- what a limit leaves when the column stands at v
abbrev pub limited : Limit → ℤ → ℤ
limited l v = int_min l.top (v +ℤ l.way)

-- whether it still rises with v
abbrev pub still_rises : Limit → ℤ → ℕ
still_rises l v = cond (int_lt (v +ℤ l.way) l.top) 1 0

-- the sum of the first n summands
abbrev pub reach_to : List Limit → ℤ → ℕ → ℤ
reach_to ls v zero = pos 0
reach_to ls v (suc n) = reach_to ls v n +ℤ limited (limit_at ls n) v

-- how many of them still rise with v
abbrev pub moving_to : List Limit → ℤ → ℕ → ℕ
moving_to ls v zero = 0
moving_to ls v (suc n) = moving_to ls v n + still_rises (limit_at ls n) v

-- how far the total of all summands reaches
abbrev pub reach_of : List Limit → ℤ → ℤ
reach_of ls v = reach_to ls v (length ls)

abbrev pub moving_of : List Limit → ℤ → ℕ
moving_of ls v = moving_to ls v (length ls)

-- v is the first value from `from` on at which the total reaches the goal
pub record Least (ls : List Limit) (goal : ℤ) (from v : ℤ) : Type 0 where
  pub late : from ≤ℤ v
  pub reached : goal ≤ℤ reach_of ls v
  pub first : (u : ℤ) → from ≤ℤ u → u <ℤ v → reach_of ls u <ℤ goal

-- r is some steps on from v and not beyond last, and fewer steps of m each do not make up the deficit
pub record Next (v last deficit : ℤ) (m : ℕ) (r : ℤ) : Type 0 where
  pub steps : ℕ
  pub some : 0 < steps
  pub is : r ≡ v +ℤ pos steps
  pub high : r ≤ℤ last
  pub short : (t : ℕ) → t < steps → pos (t * m) <ℤ deficit

-- from -30,000,000 to 30,000,000, and from -60,000,000 to 60,000,000
abbrev pub Value : ℤ → Type 0
Value z = (negsuc 29999999 ≤ℤ z) × (z ≤ℤ pos 30000000)

abbrev pub Near : ℤ → Type 0
Near z = (negsuc 59999999 ≤ℤ z) × (z ≤ℤ pos 60000000)

pub record Reachable (ls : List Limit) : Type 0 where
  pub top : (a : ℕ) → a < length ls → Value (limit_at ls a).top
  pub way : (a : ℕ) → a < length ls → Near (limit_at ls a).way

-- a sum of 31 summands lies in these bounds
abbrev pub Moderate : ℤ → Type 0
Moderate z = (negsuc 2999999999 ≤ℤ z) × (z ≤ℤ pos 3000000000)
