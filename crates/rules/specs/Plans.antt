-- Values, windows and plans, and when a plan lies in windows.
use Rattle.std.specs.Prelude.{◌≡◌, ℕ, ◌<◌, Bool, true, false, ◌&&◌, List, [], ◌∷◌, length, ℤ, pos, negsuc, ◌≤ℤ◌, ◌≢◌, int_le, slice_index_or}
use Rattle.std.specs.Int.{int_min, int_max}
use Rattle.rules.specs.declared.window.Window.{Window}

-- the window of a column, and a plan's value there
abbrev pub window_at : List Window → ℕ → Window
window_at ws i = slice_index_or ws i (record { first = pos 0; last = pos 0 })

abbrev pub value_at : List ℤ → ℕ → ℤ
value_at x i = slice_index_or x i (pos 0)

-- a value is a whole number from -30,000,000 to 30,000,000
abbrev pub is_value : ℤ → Bool
is_value v = int_le (negsuc 29999999) v && int_le v (pos 30000000)

-- both ends are values, and the first is not above the last
abbrev pub lawful : Window → Bool
lawful w = is_value w.first && (is_value w.last && int_le w.first w.last)

-- the least window that holds both
abbrev pub spanned : Window → Window → Window
spanned v w = record { first = int_min v.first w.first; last = int_max v.last w.last }

abbrev pub all_lawful : List Window → Bool
all_lawful [] = true
all_lawful (w ∷ ws) = lawful w && all_lawful ws

-- the window that holds every value
abbrev pub everything : Window
everything = record { first = negsuc 29999999; last = pos 30000000 }

-- the plan x lies in the windows ws: one value for each window, and none outside it
abbrev pub lies : List ℤ → List Window → Bool
lies [] [] = true
lies [] (w ∷ ws) = false
lies (v ∷ x) [] = false
lies (v ∷ x) (w ∷ ws) = (int_le w.first v && int_le v w.last) && lies x ws

-- each window of ws lies inside that of vs
abbrev pub inside : List Window → List Window → Bool
inside [] [] = true
inside [] (v ∷ vs) = false
inside (w ∷ ws) [] = false
inside (w ∷ ws) (v ∷ vs) = (int_le v.first w.first && int_le w.last v.last) && inside ws vs

-- each window holds one value
abbrev pub Single : List Window → Type 0
Single ws = (i : ℕ) → i < length ws → (window_at ws i).first ≡ (window_at ws i).last

-- the plan of all first values
abbrev pub firsts : List Window → List ℤ
firsts [] = []
firsts (w ∷ ws) = w.first ∷ firsts ws

-- each plan of A that lies in vs lies in ws
abbrev pub Keeps : (List ℤ → Bool) → List Window → List Window → Type 0
Keeps A vs ws = (x : List ℤ) → A x ≡ true → lies x vs ≡ true → lies x ws ≡ true

-- no plan of A lies in ws
abbrev pub NoPlan : (List ℤ → Bool) → List Window → Type 0
NoPlan A ws = (x : List ℤ) → A x ≡ true → lies x ws ≢ true

-- v stands in column i of some plan of A that lies in ws
pub record Supported (A : List ℤ → Bool) (ws : List Window) (i : ℕ) (v : ℤ) : Type 0 where
  pub plan : List ℤ
  pub allowed : A plan ≡ true
  pub there : lies plan ws ≡ true
  pub at : value_at plan i ≡ v

-- both ends of every window belong to plans of A that lie in ws
pub record Trimmed (A : List ℤ → Bool) (ws : List Window) : Type 0 where
  pub first_end : (i : ℕ) → i < length ws → Supported A ws i (window_at ws i).first
  pub last_end : (i : ℕ) → i < length ws → Supported A ws i (window_at ws i).last

-- each value of every window belongs to such a plan
pub record Filled (A : List ℤ → Bool) (ws : List Window) : Type 0 where
  pub each : (i : ℕ) (v : ℤ) → i < length ws → (window_at ws i).first ≤ℤ v → v ≤ℤ (window_at ws i).last → Supported A ws i v
