use Rattle.std.proofs.Common.{sym, ap, ◌∙◌}
use Rattle.rules.proofs.Failing.{answer_ok, taken}
use Rattle.layers.specs.Mirror.{mirror_meaning}
use Rattle.layers.proofs.Mirroring.{below_taken, lawful_below, turned_back}
use Rattle.layers.proofs.mirror.MirrorRule.narrow.Goals as goal

pub turn-requires : goal.turn-requires
turn-requires g c = (taken _ c.args.windows.now (answer_ok _ (sym c.in_ok-check_windows.ensures.value))).0

pub ask_all-verdict-requires : goal.ask_all-verdict-requires
ask_all-verdict-requires g c =
    below_taken (g.R.Rule.meaning c.args.self.now.rule) (g.R.Rule.meaning c.columns.new.self) c.columns.result c.args.windows.now c.turn.new.windows
    c.columns.ensures.same c.columns.ensures.value (answer_ok _ (sym c.in_ok-check_windows.ensures.value)) c.turn.ensures

pub turn-requires-2 : goal.turn-requires-2
turn-requires-2 g c =
    lawful_below (g.R.Rule.meaning c.args.self.now.rule) (g.R.Rule.meaning c.columns.new.self) c.columns.result c.args.windows.now c.turn.new.windows
    c.columns.ensures.same c.columns.ensures.value (answer_ok _ (sym c.in_ok-check_windows.ensures.value)) c.turn.ensures
    c.ask_all-verdict.result c.ask_all-verdict.new.windows c.ask_all-verdict.ensures.outcome

pub returns : goal.returns
returns g c =
    record {
      same = ap mirror_meaning (c.ask_all-verdict.ensures.same ∙ c.columns.ensures.same);
      outcome =
          turned_back (g.R.Rule.meaning c.args.self.now.rule) (g.R.Rule.meaning c.columns.new.self) c.columns.result c.args.windows.now c.turn.new.windows
          c.columns.ensures.same c.columns.ensures.value (answer_ok _ (sym c.in_ok-check_windows.ensures.value)) c.turn.ensures
          c.ask_all-verdict.result c.ask_all-verdict.new.windows c.ask_all-verdict.ensures.outcome c.turn-2.new.windows c.turn-2.ensures;
    }
