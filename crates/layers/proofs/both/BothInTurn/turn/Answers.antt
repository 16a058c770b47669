use Rattle.std.proofs.Common.{[], ◌∷◌}
use Rattle.layers.proofs.Turns.{turn_pair}
use Rattle.layers.proofs.both.BothInTurn.turn.Goals as goal

pub returns-in-Open : goal.returns-in-Open
returns-in-Open g c =
    record {
      same = λ i. c.ask.ensures.same i ∷ c.ask-in-Open.ensures.same i ∷ [];
      outcome = turn_pair _ _ _ _ c.args.windows.now c.ask.new.windows c.ask-in-Open.new.windows _ c.requires.lawful c.in-Open.ensures.outcome c.ask-in-Open.ensures.outcome;
    }
