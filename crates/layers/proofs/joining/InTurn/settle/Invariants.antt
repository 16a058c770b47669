use Rattle.std.proofs.Common.{◌≡◌}
use Rattle.layers.specs.Joining.{total_width}
use Rattle.layers.proofs.Turns.{Under}
use Rattle.layers.proofs.joining.InTurn.settle.Given as goal

abbrev pub invariant-turns : goal.invariant-turns
invariant-turns g l =
    (g.Self.InTurn.meanings l.self ≡ g.Self.InTurn.meanings l.initial.self)
    × Under (g.Self.InTurn.meanings l.initial.self) l.initial.windows l.windows

abbrev pub decreases-turns : goal.decreases-turns
decreases-turns g l = total_width l.windows
