use Rattle.std.proofs.Common.{◌≡◌}
use Rattle.differences.specs.Ends.{first_at, last_at, first_left, last_left}
use Rattle.differences.proofs.trim.cut.Given as goal

abbrev pub invariant-loop-j : goal.invariant-loop-j
invariant-loop-j g l =
    (l.first ≡ first_left (g.D.Distance.distance l.distances) (first_at l.windows) l.i l.j)
    × (l.last ≡ last_left (g.D.Distance.distance l.distances) (last_at l.windows) l.i l.j)
