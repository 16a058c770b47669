use Rattle.std.proofs.Common.{sym, ◌∙◌, rules, arith}
use Rattle.std.proofs.lemmas.Int.{ints}
use Rattle.differences.specs.Ends.{first_at}
use Rattle.totals.proofs.Ends.{ends_at, downward_row, down_reachable, down_most, last_left}
use Rattle.totals.proofs.cutting.Settled.last_left.Goals as goal

pub invariant_of-least_reaching : goal.invariant_of-least_reaching
invariant_of-least_reaching g c =
    let s = c.args.self.now in
    let d = g.D.Distance.distance s.distances.now in
    let long = c.fill.ensures.long in
    let down = downward_row d s.windows.now s.summands.now c.args.j s.bottoms.now c.fill.new.row long s.lowest (λ a l. let p = c.fill.ensures.each a l in search rules) in
    record { even = long ∙ sym s.lowest.long; few = let n = s.lowest.long in let few = s.few in omega arith; reachable = down_reachable d s.windows.now s.summands.now c.args.j _ s.closed s.lawful s.there c.requires.here down }

pub overflow_sub-window : goal.overflow_sub-window
overflow_sub-window g c =
    let ws = c.args.self.now.windows.now in
    let e = ends_at ws c.args.j c.args.self.now.lawful c.requires.here in
    omega (arith, ints)

pub overflow_sub-window-2 : goal.overflow_sub-window-2
overflow_sub-window-2 g c =
    let ws = c.args.self.now.windows.now in
    let e = ends_at ws c.args.j c.args.self.now.lawful c.requires.here in
    omega (arith, ints)

pub least_reaching-requires : goal.least_reaching-requires
least_reaching-requires g c =
    let s = c.args.self.now in
    let j = c.args.j in
    let d = g.D.Distance.distance s.distances.now in
    let e = ends_at s.windows.now j s.lawful c.requires.here in
    let h = c.ranges.high in
    let m = c.requires.moderate in
    let long = c.fill.ensures.long in
    let down = downward_row d s.windows.now s.summands.now c.args.j s.bottoms.now c.fill.new.row long s.lowest (λ a l. let p = c.fill.ensures.each a l in search rules) in
    record {
      first = (omega (arith, ints), omega (arith, ints));
      last = (omega (arith, ints), omega (arith, ints));
      order = omega (arith, ints);
      reached = down_most d s.windows.now s.summands.now j _ s.closed s.lawful s.there c.requires.here down c.args.high _ (first_at s.windows.now j) _ c.requires.least (omega (arith, ints)) (omega (arith, ints));
    }

pub overflow_sub-result : goal.overflow_sub-result
overflow_sub-result g c =
    let ws = c.args.self.now.windows.now in
    let e = ends_at ws c.args.j c.args.self.now.lawful c.requires.here in
    let lo = c.least_reaching.ensures.least.late in
    let hi = c.least_reaching.ensures.upto in
    omega (arith, ints)

pub returns : goal.returns
returns g c =
    let s = c.args.self.now in
    let j = c.args.j in
    let d = g.D.Distance.distance s.distances.now in
    let e = ends_at s.windows.now j s.lawful c.requires.here in
    let h = c.ranges.high in
    let m = c.requires.moderate in
    let lo = c.least_reaching.ensures.least.late in
    let hi = c.least_reaching.ensures.upto in
    let long = c.fill.ensures.long in
    let down = downward_row d s.windows.now s.summands.now c.args.j s.bottoms.now c.fill.new.row long s.lowest (λ a l. let p = c.fill.ensures.each a l in search rules) in
    last_left d s.windows.now s.summands.now j _ s.closed s.lawful s.there c.requires.here down
    c.args.high _ _ _ _ c.least_reaching.ensures.least (omega (arith, ints)) (omega (arith, ints)) (omega (arith, ints))
