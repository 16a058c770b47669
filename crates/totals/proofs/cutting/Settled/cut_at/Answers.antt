use Rattle.std.proofs.Common.{arith}
use Rattle.std.proofs.lemmas.Int.{ints}
use Rattle.totals.proofs.Ends.{cut_total, cut_other}
use Rattle.totals.proofs.cutting.Settled.cut_at.Goals as goal

pub returns-then-j-self : goal.returns-then-j-self
returns-then-j-self g c =
    let v = c.requires.values in
    cut_total (g.D.Distance.distance c.args.self.now.distances.now) _ _ _ _ _ _ _ _ c.if-j-self.true (omega (arith, ints)) (omega (arith, ints))

pub returns : goal.returns
returns g c =
    let v = c.requires.values in
    let f = c.first_left-first.type_inv in
    let l = c.last_left-last.type_inv in
    cut_other (g.D.Distance.distance c.args.self.now.distances.now) _ _ _ _ _ _ _ _ _ _ _ _ c.if-j-self.false c.first_left-first.ensures c.last_left-last.ensures
    (omega (arith, ints)) (omega (arith, ints)) (omega (arith, ints)) (omega (arith, ints))
