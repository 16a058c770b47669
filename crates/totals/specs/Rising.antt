-- Sums whose summands never fall.
use Rattle.std.specs.Prelude.{ℕ, Bool, true, ◌&&◌, List, [], ◌∷◌, ℤ, int_le}
use Rattle.rules.specs.Plans.{value_at}
use Rattle.totals.specs.Sums.{Kind, sums}

-- from v on, the columns never fall
abbrev pub rising_from : ℤ → List ℕ → List ℤ → Bool
rising_from v [] x = true
rising_from v (s ∷ ss) x = int_le v (value_at x s) && rising_from (value_at x s) ss x

-- the columns, in the order given, never fall
abbrev pub rising : List ℕ → List ℤ → Bool
rising [] x = true
rising (s ∷ ss) x = rising_from (value_at x s) ss x

-- the summands never fall, and the total equals them added up
abbrev pub rising_sum : Kind
rising_sum t ss x = rising ss x && sums t ss x
