-- A rule on shifted columns.
use Rattle.std.specs.Prelude.{◌≡◌, ℕ, ◌<◌, ◌≤◌, Bool, true, ◌&&◌, List, [], ◌∷◌, length, ℤ, pos, negsuc, ◌+ℤ◌, Some, None, Option, int_le, nat_le}
use Rattle.std.specs.Int.{int_max, int_min}
use Rattle.rules.specs.declared.window.Window.{Window}
use Rattle.rules.specs.declared.fault.Fault.{Fault}
use Rattle.rules.specs.declared.fault.Fault.TheVariants.{ListLength, OutOfRange}
use Rattle.rules.specs.Plans.{is_value}
use Rattle.rules.specs.Refusals.{first_failing, First, unless, at_first}
use Rattle.rules.specs.Meaning.{Meaning}
use Rattle.layers.specs.Owning.{own_rule}

-- a shift added to each value of a plan; a missing shift is 0
abbrev pub shifted : List ℤ → List ℤ → List ℤ
shifted [] x = x
shifted (s ∷ ss) [] = []
shifted (s ∷ ss) (v ∷ x) = (v +ℤ s) ∷ shifted ss x

abbrev pub all_values : List ℤ → Bool
all_values [] = true
all_values (v ∷ x) = is_value v && all_values x

-- every shifted number is a value, and the shifted plan is allowed
abbrev pub offset : List ℤ → (List ℤ → Bool) → List ℤ → Bool
offset ss A x = all_values (shifted ss x) && A (shifted ss x)

-- it is as tight and as full as the rule below it
abbrev pub offset_meaning : Meaning → List ℤ → Meaning
offset_meaning m ss = own_rule (record { width = m.scope.width; allows = offset ss m.scope.allows }) m.tight m.full

-- a shift is a whole number from -60,000,000 to 60,000,000
abbrev pub is_shift : ℤ → Bool
is_shift s = int_le (negsuc 59999999) s && int_le s (pos 60000000)

abbrev pub all_shifts : List ℤ → Bool
all_shifts [] = true
all_shifts (s ∷ ss) = is_shift s && all_shifts ss

-- the fault of shifts for a rule of k columns
unfoldable pub offset_refusal : ℕ → List ℤ → Option Fault
offset_refusal k ss = unless (nat_le (length ss) k) ListLength (at_first OutOfRange (first_failing is_shift ss) None)

-- the same in words: too many shifts, then the first that is out of range, then none
pub data OffsetJudged (k : ℕ) (ss : List ℤ) : Option Fault → Type 0 where
  too_many : k < length ss → OffsetJudged k ss (Some ListLength)
  out_of_range : (i : ℕ) → length ss ≤ k → First is_shift ss i → OffsetJudged k ss (Some (OutOfRange i))
  accepted : length ss ≤ k → all_shifts ss ≡ true → OffsetJudged k ss None

-- the window of the values of w, shifted
abbrev pub shift_window : ℤ → Window → Window
shift_window s w = record { first = w.first +ℤ s; last = w.last +ℤ s }

abbrev pub shift_windows : List ℤ → List Window → List Window
shift_windows [] ws = ws
shift_windows (s ∷ ss) [] = []
shift_windows (s ∷ ss) (w ∷ ws) = shift_window s w ∷ shift_windows ss ws

-- what is left of a window that holds values alone
abbrev pub cut : Window → Window
cut w = record { first = int_max w.first (negsuc 29999999); last = int_min w.last (pos 30000000) }
