use Rattle.std.proofs.Common.{◌+◌, map, refl, arith}
use Rattle.rules.specs.declared.verdict.Verdict.TheVariants.{Open, Void}
use Rattle.layers.proofs.Turns.{no_turn, void_early}
use Rattle.layers.proofs.Listed.{next_room, next_asked, turn_done}
use Rattle.layers.proofs.each.EachInTurn.turn.Goals as goal

pub loop-lent-init : goal.loop-lent-init
loop-lent-init g c = no_turn c.args.windows.now c.requires.lawful

pub ask-requires : goal.ask-requires
ask-requires g c =
    record {
      lawful = c.loop-lent.invariant.lawful_after;
      room = next_room g.R.Rule.meaning c.args.self.now.rules.now c.loop-lent.lent-index c.lent-item.result c.loop-lent-test.true c.lent-item.is _ (omega (arith, c.requires.room, c.loop-lent.auto.windows));
    }

pub loop-lent-preserved : goal.loop-lent-preserved
loop-lent-preserved g c =
    next_asked g.R.Rule.meaning c.args.self.now.rules.now c.loop-lent.lent-index c.lent-item.result c.loop-lent-test.true c.lent-item.is
    _ c.args.windows.now c.loop-lent.windows c.ask.new.windows Open c.loop-lent.invariant c.in_default.ensures.outcome

pub returns-in-Void : goal.returns-in-Void
returns-in-Void g c =
    record {
      same = refl;
      outcome =
          void_early (c.loop-lent.lent-index + 1) (map g.R.Rule.meaning c.args.self.now.rules.now) c.args.windows.now
          (next_asked g.R.Rule.meaning c.args.self.now.rules.now c.loop-lent.lent-index c.lent-item.result c.loop-lent-test.true c.lent-item.is
          _ c.args.windows.now c.loop-lent.windows c.ask.new.windows Void c.loop-lent.invariant c.in-Void.ensures.outcome);
    }

pub returns : goal.returns
returns g c =
    record {
      same = refl;
      outcome = turn_done g.R.Rule.meaning c.args.self.now.rules.now c.loop-lent.lent-index c.loop-lent-test.false _ _ c.loop-lent.invariant;
    }
