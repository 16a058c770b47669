-- A rule with fewer columns than the board binds the leading ones.
use Rattle.std.specs.Prelude.{ℕ, min, Bool, List, map, take, ℤ}
use Rattle.rules.specs.Meaning.{Scope, Meaning}

-- the first k values of a plan are allowed
abbrev pub leading : ℕ → (List ℤ → Bool) → List ℤ → Bool
leading k A x = A (take k x)

-- the same rule, on k columns at most
abbrev pub clip : ℕ → Scope → Scope
clip k s = record { width = min s.width k; allows = s.allows }

-- the rules that m asks until none strikes anything more, on the columns of m
abbrev pub clipped : Meaning → List Scope
clipped m = map (clip m.scope.width) m.joined

-- the rule m on a board of k columns
abbrev pub on_leading : ℕ → Meaning → Meaning
on_leading k m =
    record { scope = record { width = k; allows = leading m.scope.width m.scope.allows }; tight = m.tight; full = m.full; joined = clipped m }
