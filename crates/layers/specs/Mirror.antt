-- A rule with every sign turned.
use Rattle.std.specs.Prelude.{Bool, List, map, ℤ, neg_ℤ}
use Rattle.rules.specs.declared.window.Window.{Window}
use Rattle.rules.specs.Meaning.{Meaning}
use Rattle.layers.specs.Owning.{own_rule}

-- the plan with every sign turned is allowed
abbrev pub mirror : (List ℤ → Bool) → List ℤ → Bool
mirror A x = A (map neg_ℤ x)

-- the window that holds the values of w with their signs turned
abbrev pub mirrored : Window → Window
mirrored w = record { first = neg_ℤ w.last; last = neg_ℤ w.first }

-- it is as tight and as full as the rule below it
abbrev pub mirror_meaning : Meaning → Meaning
mirror_meaning m = own_rule (record { width = m.scope.width; allows = mirror m.scope.allows }) m.tight m.full
