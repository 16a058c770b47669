-- Two rules of which one is enough.
use Rattle.std.specs.Prelude.{max, false, ◌&&◌, ◌||◌}
use Rattle.rules.specs.Meaning.{Meaning}
-- passed on: the least window that holds two
pub use Rattle.rules.specs.Plans.{spanned}
use Rattle.layers.specs.Leading.{leading}
use Rattle.layers.specs.Owning.{own_rule}

-- a plan is allowed that one of them allows; the one with fewer columns binds the leading ones. It is tight if both are
abbrev pub either_meaning : Meaning → Meaning → Meaning
either_meaning a b =
    own_rule
    (record { width = max a.scope.width b.scope.width; allows = λ x. leading a.scope.width a.scope.allows x || leading b.scope.width b.scope.allows x })
    (a.tight && b.tight)
    false
