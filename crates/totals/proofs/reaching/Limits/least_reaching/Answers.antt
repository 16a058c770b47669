use Rattle.std.proofs.Common.{◌≤◌, length, ◌-ℤ◌, ◌<ℤ◌, refl, ap, arith, w32, w64, SFits}
use Rattle.std.proofs.lemmas.Int.{ints, to_z-of_z}
use Rattle.totals.specs.Reaching.{Value, limits, reach_of}
use Rattle.totals.proofs.LimitRows.{limits_long}
use Rattle.totals.proofs.Jumping.{Asked, Jumping, jumping_same, jumping_none, jumping_more, jumping_all, some_move, within, deficit_bound, few_move, bounds}
use Rattle.totals.proofs.reaching.Limits.least_reaching.Goals as goal

few : (c : goal.After-struct_told-in-loop-at-1) → length (limits c.args.self.now.tops.now c.args.self.now.ways.now) ≤ 31
few c = let s = c.args.self.now in let f = s.few in omega (arith, limits_long s.tops.now s.ways.now s.even)

asked : (c : goal.After-struct_told-in-loop-at-1) → Asked (limits c.args.self.now.tops.now c.args.self.now.ways.now) c.args.goal c.args.last
asked c = record { few = few c; reachable = c.args.self.now.reachable; value = c.requires.last; reached = c.requires.reached }

-- the state of the loop in plain numbers
state : (c : goal.After-struct_told-in-loop-at-1) → Jumping (limits c.args.self.now.tops.now c.args.self.now.ways.now) c.args.goal c.args.first c.args.last c.loop-at.v c.loop-at.at.sum c.loop-at.at.moving
state c = jumping_same _ _ _ _ _ _ _ _ _ _ _ _ (to_z-of_z w64 _ c.ranges.goal) (to_z-of_z w32 _ c.ranges.first) (to_z-of_z w32 _ c.ranges.last) c.loop-at.v-is refl c.loop-at.invariant

value : (c : goal.After-struct_told-in-loop-at-1) → Value c.loop-at.v
value c = let j = state c in let lo = j.low in let hi = j.high in let f = c.requires.first in let l = c.requires.last in (omega (arith, ints), omega (arith, ints))

less : (c : goal.After-struct_told-in-loop-at-1) → c.loop-at.at.sum <ℤ c.args.goal
less c = let t = c.loop-at.invariant.moderate in let g = c.ranges.goal in omega (arith, ints, c.loop-at-test.true)

pub overflow_sub-goal : goal.overflow_sub-goal
overflow_sub-goal c =
    let t = c.loop-at.invariant.moderate in
    let l = less c in
    let d = deficit_bound _ _ _ _ (asked c) _ _ _ (value c) (state c) (less c) in
    omega (arith, ints)

pub next-v-requires : goal.next-v-requires
next-v-requires c =
    let f : SFits w32 c.args.last = c.ranges.last in
    let g : SFits w64 c.args.goal = c.ranges.goal in
    let t = c.loop-at.invariant.moderate in
    let s : SFits w64 c.loop-at.at.sum = omega (arith, ints) in
    let l = less c in
    let b = deficit_bound _ _ _ _ (asked c) _ _ _ (value c) (state c) (less c) in
    let d : SFits w64 (c.args.goal -ℤ c.loop-at.at.sum) = omega (arith, ints) in
    let m = few_move (limits c.args.self.now.tops.now c.args.self.now.ways.now) c.loop-at.v in
    let many = (state c).moving_is in
    let most = few c in
    simp (c.loop-at.v-is, to_z-of_z)
    record {
      value = value c;
      last = c.requires.last;
      order = (state c).high;
      missing = omega (arith, ints);
      near = omega (arith, ints);
      moving = some_move _ _ _ _ (asked c) _ _ _ (value c) (state c) (less c);
      few = omega arith;
      reached = within _ _ _ _ (asked c) _ _ _ (value c) (state c) (less c);
    }

pub reach-at-requires-in-loop-at : goal.reach-at-requires-in-loop-at
reach-at-requires-in-loop-at c =
    let x = c.next-v.ensures in
    let high = x.high in
    let is = x.is in
    let low = c.loop-at.invariant.low in
    let f = c.requires.first in
    let l = c.requires.last in
    (omega (arith, ints), omega (arith, ints))

pub loop-at-init : goal.loop-at-init
loop-at-init c = jumping_none _ _ _ _ _ _ _ (let h = c.requires.order in omega (arith, ints)) refl c.reach-at.ensures.sum c.reach-at.ensures.moving c.reach-at.ensures.moderate

pub loop-at-preserved : goal.loop-at-preserved
loop-at-preserved c =
    let low = c.loop-at.invariant.low in
    let high = c.loop-at.invariant.high in
    let t = c.loop-at.invariant.moderate in
    let g = c.ranges.goal in
    let f = c.requires.first in
    let l = c.requires.last in
    let r = c.requires.reached in
    let e = to_z-of_z w32 c.args.last c.ranges.last in
    let a = ap (reach_of (limits c.args.self.now.tops.now c.args.self.now.ways.now)) e in
    let b = bounds (limits c.args.self.now.tops.now c.args.self.now.ways.now) c.args.last c.requires.last c.args.self.now.reachable in
    let s = c.args.self.now in
    let f0 = s.few in
    let short : length (limits s.tops.now s.ways.now) ≤ 31 = omega (arith, limits_long s.tops.now s.ways.now s.even) in
    jumping_more _ _ _ _
    (record { few = short; reachable = c.args.self.now.reachable; value = (omega (arith, ints), omega (arith, ints)); reached = omega (arith, ints) })
    _ _ _ (omega (arith, ints), omega (arith, ints)) c.loop-at.invariant (omega (arith, ints, c.loop-at-test.true)) _ _ _ _ _ c.next-v.ensures (omega (arith, ints, c.loop-at-test.true)) (omega (arith, ints))
    c.reach-at-in-loop-at.ensures.sum c.reach-at-in-loop-at.ensures.moving c.reach-at-in-loop-at.ensures.moderate

pub loop-at-smaller : goal.loop-at-smaller
loop-at-smaller c =
    let x = c.next-v.ensures in
    let high = x.high in
    let is = x.is in
    let some = x.some in
    let low = c.loop-at.invariant.low in
    let f = c.requires.first in
    let l = c.requires.last in
    omega (arith, ints)

pub returns : goal.returns
returns c =
    let t = c.loop-at.invariant.moderate in
    let g = c.ranges.goal in
    let h = c.loop-at.invariant.high in
    let l = c.requires.last in
    record {
      least = jumping_all _ _ _ _ _ _ _ (omega (arith, ints, c.loop-at-test.false))
          (jumping_same _ _ _ _ _ _ _ _ _ _ _ _ (to_z-of_z w64 _ c.ranges.goal) (to_z-of_z w32 _ c.ranges.first) (to_z-of_z w32 _ c.ranges.last) refl refl c.loop-at.invariant);
      upto = omega (arith, ints);
    }
