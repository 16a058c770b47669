-- The ends that distances leave of windows.
use Rattle.std.specs.Prelude.{◌≡◌, ℕ, zero, suc, ◌<◌, List, ℤ, ◌+ℤ◌, ◌-ℤ◌, ◌≤ℤ◌}
use Rattle.std.specs.Int.{int_max, int_min}
use Rattle.rules.specs.declared.window.Window.{Window}
use Rattle.rules.specs.Plans.{window_at}

-- the ends of the window of a column
abbrev pub first_at : List Window → ℕ → ℤ
first_at ws i = (window_at ws i).first

abbrev pub last_at : List Window → ℕ → ℤ
last_at ws i = (window_at ws i).last

-- the least value that the first values f of the first n columns leave to column i
abbrev pub first_left : (ℕ → ℕ → ℤ) → (ℕ → ℤ) → ℕ → ℕ → ℤ
first_left d f i zero = f i
first_left d f i (suc n) = int_max (first_left d f i n) (f n -ℤ d i n)

-- the greatest value that the last values l leave to it
abbrev pub last_left : (ℕ → ℕ → ℤ) → (ℕ → ℤ) → ℕ → ℕ → ℤ
last_left d l i zero = l i
last_left d l i (suc n) = int_min (last_left d l i n) (l n +ℤ d n i)

-- w is what the distances leave of the window of column i
pub record Cut (k : ℕ) (d : ℕ → ℕ → ℤ) (vs : List Window) (i : ℕ) (w : Window) : Type 0 where
  pub first : w.first ≡ first_left d (first_at vs) i k
  pub last : w.last ≡ last_left d (last_at vs) i k

-- the first n windows of ws are what they leave of vs, and none is empty
pub record AllCut (k : ℕ) (d : ℕ → ℕ → ℤ) (vs ws : List Window) (n : ℕ) : Type 0 where
  pub cut : (i : ℕ) → i < n → Cut k d vs i (window_at ws i)
  pub met : (i : ℕ) → i < n → first_at ws i ≤ℤ last_at ws i
