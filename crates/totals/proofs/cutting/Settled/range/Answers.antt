use Rattle.std.proofs.Common.{arith, w64}
use Rattle.std.proofs.lemmas.Int.{ints, to_z-of_z}
use Rattle.rules.specs.Plans.{window_at}
use Rattle.totals.specs.Reaching.{Value}
use Rattle.totals.specs.Cuts.{least, most}
use Rattle.totals.proofs.Ends.{ends_at, larger_is, smaller_is, range_values, taken_as, end_as}
use Rattle.totals.proofs.cutting.Settled.range.Goals as goal

pub returns-then-low-high : goal.returns-then-low-high
returns-then-low-high g c =
    let s = c.args.self.now in
    let ws = s.windows.now in
    let w = window_at ws s.total in
    let e = ends_at ws s.total s.lawful s.here in
    let m = c.sums-least.ensures.moderate in
    let first : Value w.first = (e.low, omega (arith, ints, e.order, e.high)) in
    let last : Value w.last = (omega (arith, ints, e.low, e.order), e.high) in
    let lo = larger_is _ _ _ _ (least ws s.summands.now) w.first c.max-low.ensures.value (to_z-of_z w64 _ (record { sfits = c.max-low.type_inv })) (taken_as _ _ m.0 c.sums-least.ensures.first) (end_as _ _ first c.from.ensures) in
    let hi = smaller_is _ _ _ _ (most ws s.summands.now) w.last c.min-high.ensures.value (to_z-of_z w64 _ (record { sfits = c.min-high.type_inv })) (taken_as _ _ m.1 c.sums-least.ensures.last) (end_as _ _ last c.from-2.ensures) in
    omega (arith, ints, c.if-low-high.true)

pub returns-else-low-high : goal.returns-else-low-high
returns-else-low-high g c =
    let s = c.args.self.now in
    let ws = s.windows.now in
    let w = window_at ws s.total in
    let e = ends_at ws s.total s.lawful s.here in
    let m = c.sums-least.ensures.moderate in
    let first : Value w.first = (e.low, omega (arith, ints, e.order, e.high)) in
    let last : Value w.last = (omega (arith, ints, e.low, e.order), e.high) in
    let lo = larger_is _ _ _ _ (least ws s.summands.now) w.first c.max-low.ensures.value (to_z-of_z w64 _ (record { sfits = c.max-low.type_inv })) (taken_as _ _ m.0 c.sums-least.ensures.first) (end_as _ _ first c.from.ensures) in
    let hi = smaller_is _ _ _ _ (most ws s.summands.now) w.last c.min-high.ensures.value (to_z-of_z w64 _ (record { sfits = c.min-high.type_inv })) (taken_as _ _ m.1 c.sums-least.ensures.last) (end_as _ _ last c.from-2.ensures) in
    record {
      low_is = lo;
      high_is = hi;
      some = omega (arith, ints, c.if-low-high.false);
      values = range_values w _ _ _ _ e (omega (arith, ints, c.if-low-high.false)) lo hi;
    }
