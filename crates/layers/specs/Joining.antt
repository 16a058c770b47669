-- Several rules that bind one board together.
use Rattle.std.specs.Prelude.{◌≡◌, ℕ, max, Bool, true, false, ◌&&◌, List, [], ◌∷◌, ◌++◌, ℤ, ◌-ℤ◌, unsigned_abs}
use Rattle.std.specs.List.{sum_by}
use Rattle.rules.specs.declared.window.Window.{Window}
use Rattle.rules.specs.declared.verdict.Verdict.{Verdict}
use Rattle.rules.specs.declared.verdict.Verdict.TheVariants.{Open, Void}
use Rattle.rules.specs.Plans.{all_lawful, inside, Single, firsts, Keeps, NoPlan}
use Rattle.rules.specs.Meaning.{Scope, Meaning, Settled, Opened}
use Rattle.layers.specs.Leading.{leading, clipped}

-- the largest number of columns, and one where there is no rule
abbrev pub most_columns : List Meaning → ℕ
most_columns [] = 1
most_columns (m ∷ ms) = max m.scope.width (most_columns ms)

-- each rule allows the plan
abbrev pub all_allow : List Meaning → List ℤ → Bool
all_allow [] x = true
all_allow (m ∷ ms) x = leading m.scope.width m.scope.allows x && all_allow ms x

-- the rules that they ask until none strikes anything more, together
abbrev pub all_joined : List Meaning → List Scope
all_joined [] = []
all_joined (m ∷ ms) = clipped m ++ all_joined ms

-- what rules mean that are asked in turn until a whole turn changes no window
abbrev pub joint : List Meaning → Meaning
joint ms = record { scope = record { width = most_columns ms; allows = all_allow ms }; tight = false; full = false; joined = all_joined ms }

-- the width of a window, from its first value to its last, and of all windows together
abbrev pub window_width : Window → ℕ
window_width w = unsigned_abs (w.last -ℤ w.first)

abbrev pub total_width : List Window → ℕ
total_width ws = sum_by window_width ws

-- each rule was asked once, in turn, and none was void: the windows vs were cut down to ws
pub record Turn (ms : List Meaning) (vs ws : List Window) : Type 0 where
  pub lawful_after : all_lawful ws ≡ true
  pub shrinks : inside ws vs ≡ true
  pub keeps : Keeps (all_allow ms) vs ws
  -- if they changed no window, each of them decided single windows, and none that they ask would strike anything
  pub decides : ws ≡ vs → Single vs → all_allow ms (firsts vs) ≡ true
  pub settles : ws ≡ vs → Settled (all_joined ms) ws

-- what a turn owes: it may stop at a rule that is void
abbrev pub Turned : List Meaning → List Window → Verdict → List Window → Type 0
Turned ms vs Open ws = Turn ms vs ws
Turned ms vs Void ws = NoPlan (all_allow ms) vs

-- what turn after turn owes: a fixed point of the turn, or that there is no plan
abbrev pub FixedPoint : List Meaning → List Window → Verdict → List Window → Type 0
FixedPoint ms vs Open ws = Opened (joint ms) vs ws
FixedPoint ms vs Void ws = NoPlan (all_allow ms) vs
