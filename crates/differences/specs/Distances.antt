-- Closed tables of distances, and the table of a list of links.
use Rattle.std.specs.Prelude.{◌≡◌, ℕ, ◌<◌, Bool, true, false, cond, ◌&&◌, List, replicate, ℤ, pos, ◌+ℤ◌, ◌≤ℤ◌, Some, None, Ok, Err, Option, Result, nat_lt}
use Rattle.rules.specs.declared.window.Window.{Window}
use Rattle.rules.specs.declared.fault.Fault.{Fault}
use Rattle.rules.specs.Plans.{value_at, everything, lies, NoPlan}
use Rattle.differences.specs.declared.link.Link.{Link}
use Rattle.differences.specs.declared.distances.Distances.{Distances}
use Rattle.differences.specs.Tables.{entry, obeys}
use Rattle.differences.specs.Links.{all_linked, links_refusal}

-- the distance between two columns, and 60,000,000 where one of them is not there
abbrev pub distance_of : Distances → ℕ → ℕ → ℤ
distance_of t i j = cond (nat_lt i t.columns && nat_lt j t.columns) (entry t.rows i j) (pos 60000000)

-- the windows of k columns that hold every value
abbrev pub all_values : ℕ → List Window
all_values k = replicate k everything

-- the plans that obey a table; where there is no table, none
abbrev pub allowed_by : Option Distances → List ℤ → Bool
allowed_by None x = false
allowed_by (Some t) x = obeys t.columns (distance_of t) x

-- the number of columns of a table, and k where there is none
abbrev pub width_of : ℕ → Option Distances → ℕ
width_of k None = k
width_of k (Some t) = t.columns

-- v is the most by which column j exceeds column i in the plans of A that lie in ws
pub record Greatest (A : List ℤ → Bool) (ws : List Window) (i j : ℕ) (v : ℤ) : Type 0 where
  pub most : (x : List ℤ) → A x ≡ true → lies x ws ≡ true → value_at x j ≤ℤ (value_at x i +ℤ v)
  pub plan : List ℤ
  pub allowed : A plan ≡ true
  pub there : lies plan ws ≡ true
  pub reached : value_at plan j ≡ value_at plan i +ℤ v

-- the table of the links: it allows the plans of values that keep them, and each of its distances is reached
pub record Tabled (k : ℕ) (ls : List Link) (t : Distances) : Type 0 where
  pub accepted : links_refusal k ls ≡ None
  pub width : t.columns ≡ k
  pub same : (x : List ℤ) → lies x (all_values k) ≡ true → all_linked ls x ≡ obeys t.columns (distance_of t) x
  pub exact : (i j : ℕ) → i < k → j < k → Greatest (all_linked ls) (all_values k) i j (distance_of t i j)

-- what comes of a list of links: a fault, no plan at all, or their table
abbrev pub Made : ℕ → List Link → Result (Option Distances) Fault → Type 0
Made k ls (Err f) = links_refusal k ls ≡ Some f
Made k ls (Ok None) = (links_refusal k ls ≡ None) × NoPlan (all_linked ls) (all_values k)
Made k ls (Ok (Some t)) = Tabled k ls t
