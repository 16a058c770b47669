use Rattle.std.proofs.Common.{◌≡◌, ◌++◌, map, take, drop}
use Rattle.layers.specs.Mirror.{mirrored}
use Rattle.layers.proofs.mirror.turn.Given as goal

abbrev pub invariant-loop-window : goal.invariant-loop-window
invariant-loop-window l = l.windows ≡ map mirrored (take l.window-index l.initial.windows) ++ drop l.window-index l.initial.windows
