use Rattle.std.proofs.Common.{◌-◌, ◌∙◌, arith}
use Rattle.layers.proofs.Leading.{asked, answered}
use Rattle.layers.proofs.asking.ask.Goals as goal

pub unwrap-requires : goal.unwrap-requires
unwrap-requires g c =
    answered (g.R.Rule.meaning c.args.rule.now) (g.R.Rule.meaning c.columns-columns.new.self) (c.columns-columns.result - 0) c.args.windows.now c.narrow.new.windows
    c.columns-columns.ensures.same (omega arith) c.requires.lawful (omega arith) c.requires.room _ c.narrow.ensures.outcome

pub returns : goal.returns
returns g c =
    let m = g.R.Rule.meaning c.columns-columns.new.self in
    record {
      same = c.narrow.ensures.same ∙ c.columns-columns.ensures.same;
      outcome =
          asked (g.R.Rule.meaning c.args.rule.now) m (c.columns-columns.result - 0) c.args.windows.now c.narrow.new.windows
          c.columns-columns.ensures.same (omega arith) c.requires.lawful (omega arith) c.requires.room _ c.narrow.auto.windows
          (rw c.unwrap.ensures at c.narrow.ensures.outcome);
    }
