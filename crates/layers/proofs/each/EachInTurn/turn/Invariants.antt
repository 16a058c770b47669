use Rattle.std.proofs.Common.{map, take}
use Rattle.layers.specs.Joining.{Turn}
use Rattle.layers.proofs.each.EachInTurn.turn.Given as goal

abbrev pub invariant-loop-lent : goal.invariant-loop-lent
invariant-loop-lent g l = Turn (take l.lent-index (map g.R.Rule.meaning l.self.rules.now)) l.initial.windows l.windows
