-- The hours that a rule holds: what it means by them.
use Rattle.std.specs.Prelude.{ℕ, Bool, true, List, ℤ, Some, None, Option, nat_lt}
use Rattle.rules.specs.Meaning.{Meaning}
use Rattle.depot.specs.declared.hours.Hours.{Hours}
use Rattle.depot.specs.Quarters.{starting, claims_nothing}

-- the column that is bound is one of k columns
abbrev pub column_there : ℕ → Option Hours → Bool
column_there k None = true
column_there k (Some h) = nat_lt h.column k

-- the plans that are allowed; without hours every plan is
abbrev pub in_hours : Option Hours → List ℤ → Bool
in_hours None x = true
in_hours (Some h) x = starting h.column h.opens h.closes x

abbrev pub quarter_meaning : ℕ → Option Hours → Meaning
quarter_meaning k hours = claims_nothing (record { width = k; allows = in_hours hours })
