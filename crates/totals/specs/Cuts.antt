-- What a total leaves of windows that distances have trimmed.
use Rattle.std.specs.Prelude.{◌≡◌, ℕ, ◌<◌, true, ◌⊎◌, List, length, ℤ, pos, ◌+ℤ◌, ◌-ℤ◌, ◌≤ℤ◌, ◌<ℤ◌, ◌≢◌, slice_index}
use Rattle.std.specs.Int.{int_max, int_min}
use Rattle.rules.specs.declared.window.Window.{Window}
use Rattle.rules.specs.declared.verdict.Verdict.{Verdict}
use Rattle.rules.specs.declared.verdict.Verdict.TheVariants.{Open, Void}
use Rattle.rules.specs.Plans.{window_at, all_lawful, inside, Keeps, NoPlan, Trimmed}
use Rattle.differences.specs.Tables.{obeys, Obeys}
use Rattle.differences.specs.Ends.{first_at, last_at}
use Rattle.totals.specs.Adding.{total}
use Rattle.totals.specs.Reaching.{Value, number_at}

-- the column of a summand
abbrev pub column_at : List ℕ → ℕ → ℕ
column_at ss a = slice_index ss a

-- the columns of the summands are there
pub record Columns (k : ℕ) (ss : List ℕ) : Type 0 where
  pub there : (a : ℕ) → a < length ss → column_at ss a < k

-- the total of the summands' first values, and of their last
abbrev pub least : List Window → List ℕ → ℤ
least ws ss = total (length ss) (column_at ss) (first_at ws)

abbrev pub most : List Window → List ℕ → ℤ
most ws ss = total (length ss) (column_at ss) (last_at ws)

-- the last values of the summands, and their first with every sign turned
pub record Tops (ws : List Window) (ss : List ℕ) (row : List ℤ) : Type 0 where
  pub long : length row ≡ length ss
  pub each : (a : ℕ) → a < length ss → number_at row a ≡ last_at ws (column_at ss a)

pub record Bottoms (ws : List Window) (ss : List ℕ) (row : List ℤ) : Type 0 where
  pub long : length row ≡ length ss
  pub each : (a : ℕ) → a < length ss → number_at row a ≡ pos 0 -ℤ first_at ws (column_at ss a)

-- the greatest total with column j at v, and the least
abbrev pub greatest_with : (ℕ → ℕ → ℤ) → List Window → List ℕ → ℕ → ℤ → ℤ
greatest_with d ws ss j v = total (length ss) (column_at ss) (λ i. int_min (last_at ws i) (v +ℤ d j i))

abbrev pub least_with : (ℕ → ℕ → ℤ) → List Window → List ℕ → ℕ → ℤ → ℤ
least_with d ws ss j v = total (length ss) (column_at ss) (λ i. int_max (first_at ws i) (v -ℤ d i j))

-- v is the first value of column j at which the total can be low or more
pub record FirstLeft (d : ℕ → ℕ → ℤ) (ws : List Window) (ss : List ℕ) (j : ℕ) (low : ℤ) (v : ℤ) : Type 0 where
  pub late : first_at ws j ≤ℤ v
  pub reached : low ≤ℤ greatest_with d ws ss j v
  pub before : (u : ℤ) → first_at ws j ≤ℤ u → u <ℤ v → greatest_with d ws ss j u <ℤ low

-- v is the last value of column j at which it can be high or less
pub record LastLeft (d : ℕ → ℕ → ℤ) (ws : List Window) (ss : List ℕ) (j : ℕ) (high : ℤ) (v : ℤ) : Type 0 where
  pub early : v ≤ℤ last_at ws j
  pub kept : least_with d ws ss j v ≤ℤ high
  pub after : (u : ℤ) → u ≤ℤ last_at ws j → v <ℤ u → high <ℤ least_with d ws ss j u

pub record ColumnCut (d : ℕ → ℕ → ℤ) (ws : List Window) (ss : List ℕ) (j : ℕ) (low high : ℤ) (w : Window) : Type 0 where
  pub first : FirstLeft d ws ss j low w.first
  pub last : LastLeft d ws ss j high w.last

-- what the distances leave of vs, column by column the same as their trim says
pub record Trims (k : ℕ) (d : ℕ → ℕ → ℤ) (vs ws : List Window) : Type 0 where
  pub lawful_after : all_lawful ws ≡ true
  pub within : inside ws vs ≡ true
  pub keeps : Keeps (obeys k d) vs ws
  pub ends : Trimmed (obeys k d) ws

-- the least and the most that the total can be
abbrev pub low_of : List Window → ℕ → List ℕ → ℤ
low_of ws t ss = int_max (first_at ws t) (least ws ss)

abbrev pub high_of : List Window → ℕ → List ℕ → ℤ
high_of ws t ss = int_min (last_at ws t) (most ws ss)

-- low is the least that the total can be, and high the most, and both are values
pub record Range (ws : List Window) (t : ℕ) (ss : List ℕ) (low high : ℤ) : Type 0 where
  pub low_is : low ≡ low_of ws t ss
  pub high_is : high ≡ high_of ws t ss
  pub some : low ≤ℤ high
  pub values : Value low × Value high

-- w is what is left of column j: from low to high if it is the total's
pub record CutAt (d : ℕ → ℕ → ℤ) (ws : List Window) (t : ℕ) (ss : List ℕ) (j : ℕ) (low high : ℤ) (w : Window) : Type 0 where
  pub at_total : j ≡ t → w ≡ record { first = low; last = high }
  pub cut : (j ≢ t) → ColumnCut d ws ss j low high w

-- the total can be met, and every window of ws is what is left of that of ms
pub record Met (k : ℕ) (d : ℕ → ℕ → ℤ) (t : ℕ) (ss : List ℕ) (ms ws : List Window) : Type 0 where
  pub some : low_of ms t ss ≤ℤ high_of ms t ss
  pub each : (j : ℕ) → j < k → CutAt d ms t ss j (low_of ms t ss) (high_of ms t ss) (window_at ws j)

-- the ends of the windows obey the distances
pub record EndsObey (k : ℕ) (d : ℕ → ℕ → ℤ) (ms : List Window) : Type 0 where
  pub firsts : Obeys k d (first_at ms)
  pub lasts : Obeys k d (last_at ms)

abbrev pub Meeting : ℕ → (ℕ → ℕ → ℤ) → ℕ → List ℕ → List Window → List Window → Verdict → List Window → Type 0
Meeting k d t ss ms vs Open ws = Met k d t ss ms ws
Meeting k d t ss ms vs Void ws = (high_of ms t ss <ℤ low_of ms t ss) × (ws ≡ vs)

-- from vs over ms, which the distances leave, to ws: the total runs from low to high, and each other column is cut by it
pub record TotalCut (k : ℕ) (d : ℕ → ℕ → ℤ) (t : ℕ) (ss : List ℕ) (vs ms ws : List Window) : Type 0 where
  pub trims : Trims k d vs ms
  pub long : length ws ≡ k
  pub met : Met k d t ss ms ws

-- no plan obeys the distances, or the total cannot be met
abbrev pub TotalVoid : ℕ → (ℕ → ℕ → ℤ) → ℕ → List ℕ → List Window → Type 0
TotalVoid k d t ss vs = NoPlan (obeys k d) vs ⊎ ((ms : List Window) × Trims k d vs ms × (high_of ms t ss <ℤ low_of ms t ss))

abbrev pub TotalOutcome : ℕ → (ℕ → ℕ → ℤ) → ℕ → List ℕ → List Window → Verdict → List Window → Type 0
TotalOutcome k d t ss vs Open ws = (ms : List Window) × TotalCut k d t ss vs ms ws
TotalOutcome k d t ss vs Void ws = TotalVoid k d t ss vs × (ws ≡ vs)
