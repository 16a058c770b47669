use Rattle.std.proofs.Common.{arith}
use Rattle.layers.proofs.Pairs.{pair_narrowed, pair_same}
use Rattle.layers.proofs.both.BothRule.narrow.Goals as goal

pub returns : goal.returns
returns g c =
    let a = g.A.Rule.meaning c.args.self.now.first in
    let b = g.B.Rule.meaning c.args.self.now.second in
    let a' = g.A.Rule.meaning c.columns-columns.new.self.first in
    let b' = g.B.Rule.meaning c.columns-columns.new.self.second in
    record {
      same = pair_same a b a' b' c.columns-columns.ensures.same _ _ c.narrow_together.ensures.same;
      outcome = pair_narrowed a b a' b' c.columns-columns.ensures.same c.args.windows.now c.narrow_together.new.windows c.narrow_together.result (omega arith) c.narrow_together.ensures.outcome;
    }
