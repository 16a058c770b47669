-- What follows for every rule from the outcome of narrow.
use Rattle.std.specs.Prelude.{◌≡◌, true, List, Some, None, Ok, Err, Option, Result}
use Rattle.rules.specs.declared.window.Window.{Window}
use Rattle.rules.specs.declared.fault.Fault.{Fault}
use Rattle.rules.specs.declared.verdict.Verdict.{Verdict}
use Rattle.rules.specs.declared.verdict.Verdict.TheVariants.{Open, Void}
use Rattle.rules.specs.Plans.{Trimmed}
use Rattle.rules.specs.Meaning.{Meaning}
use Rattle.rules.specs.Enumeration.{hull}

-- what a verdict leaves of the windows
abbrev pub verdict_left : Verdict → List Window → Option (List Window)
verdict_left Open ws = Some ws
verdict_left Void ws = None

-- a tight rule leaves the hull, and says void where there is none
abbrev pub Exact : Meaning → List Window → Result Verdict Fault → List Window → Type 0
Exact m vs (Ok v) ws = m.tight ≡ true → verdict_left v ws ≡ hull m.scope.allows vs
Exact m vs (Err f) ws = Unit {0}

-- no rule strikes anything where both ends of every window belong to allowed plans
abbrev pub Rests : Meaning → List Window → Result Verdict Fault → List Window → Type 0
Rests m vs (Ok v) ws = Trimmed m.scope.allows vs → (v ≡ Open) × (ws ≡ vs)
Rests m vs (Err f) ws = Unit {0}
