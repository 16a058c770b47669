-- Two columns that stay a gap or more apart.
use Rattle.std.specs.Prelude.{◌≡◌, ℕ, ◌<◌, Bool, false, not, ◌&&◌, ◌||◌, List, ℤ, pos, ◌-ℤ◌, ◌≤ℤ◌, Some, None, Option, ◌==◌, ◌≢◌, int_le, nat_lt}
use Rattle.rules.specs.declared.fault.Fault.{Fault}
use Rattle.rules.specs.declared.fault.Fault.TheVariants.{ColumnCount, NoColumn, ColumnTwice, OutOfRange}
use Rattle.rules.specs.Plans.{value_at}
use Rattle.rules.specs.Refusals.{unless, counted, Counted}
use Rattle.rules.specs.Meaning.{Scope, Meaning, tight_rule, meaning_if}
use Rattle.differences.specs.declared.apart.Apart.{Apart}

-- x is at most y less the gap
abbrev pub ahead : ℤ → ℤ → ℤ → Bool
ahead gap x y = int_le x (y -ℤ gap)

-- one of x and y is at most the other less the gap
abbrev pub far : ℤ → ℤ → ℤ → Bool
far gap x y = ahead gap x y || ahead gap y x

-- the plans in which the columns one and other are so
abbrev pub apart : ℕ → ℕ → ℤ → List ℤ → Bool
apart one other gap x = far gap (value_at x one) (value_at x other)

abbrev pub apart_scope : ℕ → ℕ → ℕ → ℤ → Scope
apart_scope columns one other gap = record { width = columns; allows = apart one other gap }

-- the fault of a setting
unfoldable pub apart_refusal : ℕ → ℕ → ℕ → ℤ → Option Fault
apart_refusal columns one other gap =
    unless (counted columns) ColumnCount
    (unless (nat_lt one columns && nat_lt other columns) (NoColumn 0)
    (unless (not (one == other)) (ColumnTwice 0) (unless (int_le (pos 1) gap && int_le gap (pos 60000000)) (OutOfRange 0) None)))

-- the same in words: there are 1 to 32 columns, both are there, they are two, and the gap is in its range; the first that fails is answered
abbrev pub There : ℕ → ℕ → ℕ → Type 0
There columns one other = (one < columns) × (other < columns)

abbrev pub InRange : ℤ → Type 0
InRange gap = (pos 1 ≤ℤ gap) × (gap ≤ℤ pos 60000000)

pub data ApartJudged (columns one other : ℕ) (gap : ℤ) : Option Fault → Type 0 where
  column_count : (Counted columns → ⊥) → ApartJudged columns one other gap (Some ColumnCount)
  no_column : Counted columns → (There columns one other → ⊥) → ApartJudged columns one other gap (Some (NoColumn 0))
  column_twice : Counted columns → There columns one other → one ≡ other → ApartJudged columns one other gap (Some (ColumnTwice 0))
  out_of_range : Counted columns → There columns one other → (one ≢ other) → (InRange gap → ⊥) → ApartJudged columns one other gap (Some (OutOfRange 0))
  accepted : Counted columns → There columns one other → (one ≢ other) → InRange gap → ApartJudged columns one other gap None

-- what a row means
abbrev pub apart_meaning : Apart → Meaning
apart_meaning row =
    meaning_if (apart_refusal row.columns row.one row.other row.gap) (tight_rule (apart_scope row.columns row.one row.other row.gap) false)
