use Rattle.std.proofs.Common.{arith}
use Rattle.std.proofs.lemmas.Int.{ints}
use Rattle.totals.proofs.Meeting.{cutting_more, cutting_all, most_at_last, least_at_first}
use Rattle.totals.proofs.cutting.Settled.meet.Goals as goal

pub cut_at-requires : goal.cut_at-requires
cut_at-requires g c =
    let s = c.args.self.now in
    let d = g.D.Distance.distance s.distances.now in
    let r = rw c.in-Some.is at c.range.ensures in
    let v = r.values in
    let some = r.some in
    let lo = r.low_is in
    let hi = r.high_is in
    let here = c.loop-j-test.true in
    let long = c.requires in
    record {
      here = omega arith;
      values = ((omega (arith, ints), omega (arith, ints)), (omega (arith, ints), omega (arith, ints)));
      least = least_at_first _ d _ s.total _ s.ends s.there c.loop-j.j (omega arith) c.in-Some.low _ (omega (arith, ints)) (omega (arith, ints));
      most = most_at_last _ d _ s.total _ s.ends s.there c.loop-j.j (omega arith) _ c.in-Some.high (omega (arith, ints)) (omega (arith, ints));
    }

pub loop-j-preserved : goal.loop-j-preserved
loop-j-preserved g c = cutting_more (g.D.Distance.distance c.args.self.now.distances.now) _ _ _ _ _ c.loop-j.windows c.loop-j.j c.cut_at.result (let l = c.loop-j.auto.windows in omega (arith, c.loop-j-test.true)) c.loop-j.invariant c.cut_at.ensures

pub returns : goal.returns
returns g c =
    let r = rw c.in-Some.is at c.range.ensures in
    let some = r.some in
    let lo = r.low_is in
    let hi = r.high_is in
    let long = c.requires in
    let over = c.loop-j-test.false in
    cutting_all (g.D.Distance.distance c.args.self.now.distances.now) _ _ _ _ _ c.loop-j.windows c.loop-j.j _ (omega arith)
    (omega (arith, ints)) (omega (arith, ints)) (omega (arith, ints)) c.loop-j.invariant
