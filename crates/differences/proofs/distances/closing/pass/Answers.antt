use Rattle.std.proofs.Common.{◌≡◌, ◌<◌, ◌≤◌, [], length, get_or, set, pos, arith, get_or-set_same}
use Rattle.std.proofs.lemmas.List.{length-take-le}
use Rattle.std.proofs.lemmas.Int.{ints}
use Rattle.differences.specs.Tables.{entry}
use Rattle.differences.proofs.Rows.{passing_more, too_far, below_zero, leading_near, leading_relaxed, leading_far}
use Rattle.differences.proofs.distances.closing.pass.Goals as goal

pub relax-requires : goal.relax-requires
relax-requires c =
    let k = length c.args.rows.now in
    let through = get_or c.args.rows.now c.args.m [] in
    let fits : k ≤ length through = omega (arith, c.told-rows c.args.m c.requires.there, c.requires.few) in
    let long = length-take-le k through fits in
    let near = c.loop-i.invariant.near.near c.loop-i.i c.loop-i-test.true in
    record {
      few = omega (arith, long, c.requires.few);
      row = record { near = λ j h. near.near j (omega (arith, long)) };
      through = leading_near k through fits (c.requires.near.near c.args.m c.requires.there);
      leg = (omega (arith, ints, near.near c.args.m c.requires.there), omega (arith, ints, near.near c.args.m c.requires.there));
    }

pub returns-in_err-relax : goal.returns-in_err-relax
returns-in_err-relax c =
    let k = length c.args.rows.now in
    let through = get_or c.args.rows.now c.args.m [] in
    let fits : k ≤ length through = omega (arith, c.told-rows c.args.m c.requires.there, c.requires.few) in
    let near = c.loop-i.invariant.near.near c.loop-i.i c.loop-i-test.true in
    rw c.from_residual.ensures
    (too_far k c.args.m _ c.loop-i.rows _ c.loop-i-test.true (omega (arith, c.loop-i.auto.rows)) c.loop-i.invariant _
    (omega (arith, ints, near.near c.args.m c.requires.there)) c.requires.there (leading_far k through fits _ c.in_err-relax.ensures))

pub returns-then-row-i-lt0 : goal.returns-then-row-i-lt0
returns-then-row-i-lt0 c =
    let k = length c.args.rows.now in
    let i = c.loop-i.i in
    let through = get_or c.args.rows.now c.args.m [] in
    let fits : k ≤ length through = omega (arith, c.told-rows c.args.m c.requires.there, c.requires.few) in
    let lt : i < length c.loop-i.rows = omega (arith, c.loop-i.auto.rows, c.loop-i-test.true) in
    let was = c.loop-i.invariant.near.near i c.loop-i-test.true in
    let relaxed = leading_relaxed k through fits _ _ _ c.in_ok-relax.ensures in
    let at : entry (set c.loop-i.rows i c.relax.new.row) i i ≡ get_or c.relax.new.row i (pos 0) = rw get_or-set_same in
    let near = relaxed.near.near i c.loop-i-test.true in
    below_zero k c.args.m _ c.loop-i.rows _ c.loop-i-test.true (omega (arith, c.loop-i.auto.rows)) c.loop-i.invariant _
    (omega (arith, ints, was.near c.args.m c.requires.there))
    c.relax.new.row c.requires.there relaxed (omega (arith, ints, at, near, c.if-row-i-lt0.true))

pub loop-i-preserved : goal.loop-i-preserved
loop-i-preserved c =
    let k = length c.args.rows.now in
    let i = c.loop-i.i in
    let through = get_or c.args.rows.now c.args.m [] in
    let fits : k ≤ length through = omega (arith, c.told-rows c.args.m c.requires.there, c.requires.few) in
    let lt : i < length c.loop-i.rows = omega (arith, c.loop-i.auto.rows, c.loop-i-test.true) in
    let was = c.loop-i.invariant.near.near i c.loop-i-test.true in
    let relaxed = leading_relaxed k through fits _ _ _ c.in_ok-relax.ensures in
    let at : entry (set c.loop-i.rows i c.relax.new.row) i i ≡ get_or c.relax.new.row i (pos 0) = rw get_or-set_same in
    let near = relaxed.near.near i c.loop-i-test.true in
    passing_more k c.args.m _ c.loop-i.rows _ c.loop-i-test.true (omega (arith, c.loop-i.auto.rows)) c.loop-i.invariant _
    (omega (arith, ints, was.near c.args.m c.requires.there))
    c.relax.new.row relaxed (omega (arith, ints, at, near, c.if-row-i-lt0.false))
