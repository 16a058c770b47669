-- Two rules that bind one board together.
use Rattle.std.specs.Prelude.{max, false, ◌&&◌, ◌++◌}
use Rattle.rules.specs.Meaning.{Meaning}
use Rattle.layers.specs.Leading.{leading, clipped}

-- a plan is allowed that both allow; the one with fewer columns binds the leading ones
abbrev pub both_meaning : Meaning → Meaning → Meaning
both_meaning a b =
    record {
      scope = record { width = max a.scope.width b.scope.width; allows = λ x. leading a.scope.width a.scope.allows x && leading b.scope.width b.scope.allows x };
      tight = false;
      full = false;
      joined = clipped a ++ clipped b;
    }
