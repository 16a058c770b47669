use Rattle.std.proofs.Common.{◌+ℤ◌, ◌-ℤ◌, ◌∙◌, arith, w32, SFits, rules}
use Rattle.std.proofs.lemmas.Int.{ints, to_z-of_z}
use Rattle.rules.proofs.Windows.{lawful_ends}
use Rattle.differences.proofs.Pairing.{ahead_left, less_fits, more_fits}
use Rattle.differences.proofs.pairs.precede.Goals as goal

pub returns : goal.returns
returns c =
    let a = lawful_ends c.args.a c.requires.lawful.0 in
    let b = lawful_ends c.args.b c.requires.lawful.1 in
    let gap = c.ranges.gap in
    let a_first : SFits w32 c.args.a.first = search rules in
    let a-last : SFits w32 c.args.a.last = search rules in
    let b-first : SFits w32 c.args.b.first = search rules in
    let b-last : SFits w32 c.args.b.last = search rules in
    let latest : SFits w32 (c.args.b.last -ℤ c.args.gap) = less_fits _ _ (omega (arith, ints)) b.high c.requires.range in
    let earliest : SFits w32 (c.args.a.first +ℤ c.args.gap) = more_fits _ _ a.low (omega (arith, ints)) c.requires.range in
    ahead_left c.args.gap c.args.a c.args.b _ _ a.order b.order
    (simp to_z-of_z at c.if-a-latest.false)
    (to_z-of_z w32 _ a_first)
    (to_z-of_z w32 _ (search rules) ∙ simp to_z-of_z at c.min.ensures.value)
    (to_z-of_z w32 _ (search rules) ∙ simp to_z-of_z at c.max.ensures.value)
    (to_z-of_z w32 _ b-last)
