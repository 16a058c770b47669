use Rattle.std.proofs.Common.{◌≡◌, ◌<◌, length, sym, refl, ap, ◌∙◌, arith, w32, to_z, of_z}
use Rattle.std.proofs.lemmas.Int.{ints, to_z-of_z}
use Rattle.totals.specs.declared.reaching.Limit.{Limit}
use Rattle.totals.specs.Reaching.{limits, limited, still_rises}
use Rattle.totals.proofs.LimitRows.{limit_is, limits_long, limits_at}
use Rattle.totals.proofs.Jumping.{partly_more, partly_all}
use Rattle.totals.proofs.reaching.Limits.reach.Goals as goal

pub reach-one-requires-clause-top : goal.reach-one-requires-clause-top
reach-one-requires-clause-top c =
    let s = c.args.self.now in
    let here = c.loop-a-test.true in
    let r = s.reachable.top c.loop-a.a (omega (arith, limits_long s.tops.now s.ways.now s.even)) in
    let e = ap (λ (m : Limit). m.top) (limits_at s.tops.now s.ways.now c.loop-a.a s.even here) in
    (omega (arith, ints), omega (arith, ints))

pub reach-one-requires-clause-way : goal.reach-one-requires-clause-way
reach-one-requires-clause-way c =
    let s = c.args.self.now in
    let here = c.loop-a-test.true in
    let r = s.reachable.way c.loop-a.a (omega (arith, limits_long s.tops.now s.ways.now s.even)) in
    let e = ap (λ (m : Limit). m.way) (limits_at s.tops.now s.ways.now c.loop-a.a s.even here) in
    (omega (arith, ints), omega (arith, ints))

pub loop-a-preserved : goal.loop-a-preserved
loop-a-preserved c =
    let s = c.args.self.now in
    let here = c.loop-a-test.true in
    let long = limits_long s.tops.now s.ways.now s.even in
    let top = s.reachable.top c.loop-a.a (omega (arith, long)) in
    let way = s.reachable.way c.loop-a.a (omega (arith, long)) in
    let at = limits_at s.tops.now s.ways.now c.loop-a.a s.even here in
    let top-is = ap (λ (m : Limit). m.top) at in
    let way-is = ap (λ (m : Limit). m.way) at in
    let same = limit_is _ _ _ _ (omega (arith, ints)) (omega (arith, ints)) ∙ sym at in
    let few = s.few in
    let one = c.reach-one.ensures in
    partly_more (limits s.tops.now s.ways.now) _ _ _ _ _ c.reach-one.result.sum _ _ c.reach-one.result.moving c.loop-a.invariant
    (one.sum ∙ ap (λ (m : Limit). limited m (to_z w32 (of_z w32 c.args.v))) same) (one.moving ∙ ap (λ (m : Limit). still_rises m (to_z w32 (of_z w32 c.args.v))) same) refl one.few one.low one.high (omega (arith, ints)) (omega arith)

pub returns-clause-sum : goal.returns-clause-sum
returns-clause-sum c =
    let s = c.args.self.now in
    (partly_all _ c.args.v _ _ _ _ c.loop-a.invariant (to_z-of_z w32 _ c.ranges.v) (omega (arith, limits_long s.tops.now s.ways.now s.even, c.loop-a-test.false, c.loop-a.auto.a-end))).0

pub returns-clause-moving : goal.returns-clause-moving
returns-clause-moving c =
    let s = c.args.self.now in
    (partly_all _ c.args.v _ _ _ _ c.loop-a.invariant (to_z-of_z w32 _ c.ranges.v) (omega (arith, limits_long s.tops.now s.ways.now s.even, c.loop-a-test.false, c.loop-a.auto.a-end))).1
