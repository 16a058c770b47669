-- A layer that makes claims of its own, and does not pass on what the rules below it ask.
use Rattle.std.specs.Prelude.{Bool, cond, [], ◌∷◌}
use Rattle.rules.specs.Meaning.{Scope, Meaning}

-- it lists itself if it is tight, and else nothing
abbrev pub own_rule : Scope → Bool → Bool → Meaning
own_rule s tight full = record { scope = s; tight = tight; full = full; joined = cond tight (s ∷ []) [] }
