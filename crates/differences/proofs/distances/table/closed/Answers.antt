use Rattle.std.proofs.Common.{◌≤◌, length, refl, arith, ◌∙◌}
use Rattle.differences.proofs.Judging.{links_taken}
use Rattle.differences.proofs.Linking.{no_plan, table_of}
use Rattle.differences.proofs.Leading.{leading_rows_near, leading_zeros, leading_none, leading_closed, leading_long}
use Rattle.differences.proofs.distances.table.closed.Goals as goal

pub enter-requires : goal.enter-requires
enter-requires c =
    let known = links_taken c.args.columns c.args.links.now c.requires in
    record { few = known.few; long = omega arith; unlinked = c.unlinked-rows.ensures; good = known.good }

pub slice_bounds-rows-end : goal.slice_bounds-rows-end
slice_bounds-rows-end c = omega (arith, (links_taken c.args.columns c.args.links.now c.requires).few)

pub slice_bounds-close-end : goal.slice_bounds-close-end
slice_bounds-close-end c =
    let known = links_taken c.args.columns c.args.links.now c.requires in
    let fits : c.args.columns ≤ length c.enter.new.rows = omega (arith, known.few) in
    omega (arith, leading_long _ _ fits)

pub close-requires : goal.close-requires
close-requires c =
    let known = links_taken c.args.columns c.args.links.now c.requires in
    let fits : c.args.columns ≤ length c.enter.new.rows = omega (arith, known.few) in
    record {
      few = omega (arith, known.few, leading_long _ _ fits);
      near = leading_rows_near _ _ fits c.enter.ensures.near;
      zeros = leading_zeros _ _ fits c.enter.ensures.zeros;
    }

pub returns-in_err-close : goal.returns-in_err-close
returns-in_err-close c =
    let known = links_taken c.args.columns c.args.links.now c.requires in
    let fits : c.args.columns ≤ length c.enter.new.rows = omega (arith, known.few) in
    rw c.from_residual.ensures (c.requires, no_plan c.args.columns c.args.links.now _ c.enter.ensures (leading_none _ _ fits c.in_err-close.ensures))

pub invariant_of-result : goal.invariant_of-result
invariant_of-result c =
    let known = links_taken c.args.columns c.args.links.now c.requires in
    let fits : c.args.columns ≤ length c.enter.new.rows = omega (arith, known.few) in
    record { some = known.some; few = known.few; closed = ∣ (leading_closed _ _ fits _ _ (c.close.auto.rows ∙ leading_long _ _ fits) c.in_ok-close.ensures).closed ∣₁ }

pub returns : goal.returns
returns c =
    let known = links_taken c.args.columns c.args.links.now c.requires in
    let fits : c.args.columns ≤ length c.enter.new.rows = omega (arith, known.few) in
    table_of c.args.columns c.args.links.now _ c.enter.ensures _
    (leading_closed _ _ fits _ _ (c.close.auto.rows ∙ leading_long _ _ fits) c.in_ok-close.ensures) refl c.requires
