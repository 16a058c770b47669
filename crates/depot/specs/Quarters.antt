-- Quarter hours while the depot is open: what is allowed, and which settings are refused.
use Rattle.std.specs.Prelude.{◌≡◌, ℕ, ◌%◌, ◌<◌, ◌≤◌, Bool, true, false, ◌&&◌, List, [], ℤ, pos, negsuc, ◌≤ℤ◌, Some, None, Option, ◌==◌, ◌≢◌, nat_le, nat_lt}
use Rattle.rules.specs.declared.window.Window.{Window}
use Rattle.rules.specs.declared.fault.Fault.{Fault}
use Rattle.rules.specs.declared.fault.Fault.TheVariants.{ColumnCount, NoColumn, UnlawfulWindow}
use Rattle.rules.specs.Plans.{value_at}
use Rattle.rules.specs.Refusals.{unless, counted, Counted}
use Rattle.rules.specs.Meaning.{Scope, Meaning}

-- the minute v is a quarter hour from opens to closes; a test that computes
abbrev pub starts : ℕ → ℕ → ℤ → Bool
starts opens closes (pos n) = (nat_le opens n && nat_le n closes) && n % 15 == 0
starts opens closes (negsuc n) = false

-- the plans in which a column starts so
abbrev pub starting : ℕ → ℕ → ℕ → List ℤ → Bool
starting column opens closes x = starts opens closes (value_at x column)

-- the meaning of a rule that claims nothing of its trims
abbrev pub claims_nothing : Scope → Meaning
claims_nothing s = record { scope = s; tight = false; full = false; joined = [] }

-- the fault of a setting; tests come in the order of the numbers
unfoldable pub hours_refusal : ℕ → ℕ → ℕ → ℕ → Option Fault
hours_refusal columns column opens closes = unless (counted columns) ColumnCount (unless (nat_lt column columns) (NoColumn 0) (unless (nat_le opens closes) (UnlawfulWindow 0) None))

-- the same in words
pub data HoursJudged (columns column opens closes : ℕ) : Option Fault → Type 0 where
  column_count : (Counted columns → ⊥) → HoursJudged columns column opens closes (Some ColumnCount)
  no_column : Counted columns → columns ≤ column → HoursJudged columns column opens closes (Some (NoColumn 0))
  never_open : Counted columns → column < columns → closes < opens → HoursJudged columns column opens closes (Some (UnlawfulWindow 0))
  accepted : Counted columns → column < columns → opens ≤ closes → HoursJudged columns column opens closes None

-- w is what the quarter hours leave of the window v: inside it, with every start in v, and from a start on
pub record Quarters (opens closes : ℕ) (v w : Window) : Type 0 where
  pub low : v.first ≤ℤ w.first
  pub order : w.first ≤ℤ w.last
  pub high : w.last ≤ℤ v.last
  pub keeps : (m : ℤ) → v.first ≤ℤ m → m ≤ℤ v.last → starts opens closes m ≡ true → (w.first ≤ℤ m) × (m ≤ℤ w.last)
  pub begins : starts opens closes w.first ≡ true

-- nothing where there is no start in v
abbrev pub QuartersLeft : ℕ → ℕ → Window → Option Window → Type 0
QuartersLeft opens closes v (Some w) = Quarters opens closes v w
QuartersLeft opens closes v None = (m : ℤ) → v.first ≤ℤ m → m ≤ℤ v.last → starts opens closes m ≢ true
