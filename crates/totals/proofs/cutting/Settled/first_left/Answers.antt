use Rattle.std.proofs.Common.{sym, ◌∙◌, rules, arith}
use Rattle.std.proofs.lemmas.Int.{ints}
use Rattle.differences.specs.Ends.{last_at}
use Rattle.totals.proofs.Ends.{ends_at, upward_row, up_reachable, up_most, first_left}
use Rattle.totals.proofs.cutting.Settled.first_left.Goals as goal

pub invariant_of-least_reaching : goal.invariant_of-least_reaching
invariant_of-least_reaching g c =
    let s = c.args.self.now in
    let d = g.D.Distance.distance s.distances.now in
    let long = c.fill.ensures.long in
    let up = upward_row d s.windows.now s.summands.now c.args.j s.tops.now c.fill.new.row long s.highest (λ a l. let p = c.fill.ensures.each a l in search rules) in
    record { even = long ∙ sym s.highest.long; few = let n = s.highest.long in let few = s.few in omega arith; reachable = up_reachable d s.windows.now s.summands.now c.args.j _ s.closed s.lawful s.there c.requires.here up }

pub least_reaching-requires : goal.least_reaching-requires
least_reaching-requires g c =
    let s = c.args.self.now in
    let j = c.args.j in
    let d = g.D.Distance.distance s.distances.now in
    let e = ends_at s.windows.now j s.lawful c.requires.here in
    let h = c.ranges.low in
    let long = c.fill.ensures.long in
    let up = upward_row d s.windows.now s.summands.now c.args.j s.tops.now c.fill.new.row long s.highest (λ a l. let p = c.fill.ensures.each a l in search rules) in
    record {
      first = (omega (arith, ints), omega (arith, ints));
      last = (omega (arith, ints), omega (arith, ints));
      order = omega (arith, ints);
      reached = up_most d s.windows.now s.summands.now j _ s.closed s.lawful s.there c.requires.here up c.args.low _ (last_at s.windows.now j) _ c.requires.most (omega (arith, ints)) (omega (arith, ints));
    }

pub returns : goal.returns
returns g c =
    let s = c.args.self.now in
    let j = c.args.j in
    let d = g.D.Distance.distance s.distances.now in
    let e = ends_at s.windows.now j s.lawful c.requires.here in
    let h = c.ranges.low in
    let ok = c.least_reaching.type_inv in
    let long = c.fill.ensures.long in
    let up = upward_row d s.windows.now s.summands.now c.args.j s.tops.now c.fill.new.row long s.highest (λ a l. let p = c.fill.ensures.each a l in search rules) in
    first_left d s.windows.now s.summands.now j _ s.closed s.lawful s.there c.requires.here up
    c.args.low _ _ _ _ c.least_reaching.ensures.least (omega (arith, ints)) (omega (arith, ints)) (omega (arith, ints))
