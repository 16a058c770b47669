use Rattle.std.proofs.Common.{refl}
use Rattle.totals.specs.Orders.{not_after}
use Rattle.totals.proofs.Judging.{sum_taken}
use Rattle.totals.proofs.Plain.{summands_apart}
use Rattle.totals.proofs.Chained.{rising_totals}
use Rattle.totals.proofs.rising.ChainOrder.of_sum.Goals as goal

pub of-requires : goal.of-requires
of-requires c =
    let taken = sum_taken _ _ _ c.requires in
    rw c.as_slice.ensures record { some = taken.some; few = taken.few; there = taken.columns; distinct = summands_apart _ _ taken.distinct }

pub returns : goal.returns
returns c =
    let taken = sum_taken _ _ _ c.requires in
    record {
      width_is = c.of.ensures.width;
      order = not_after c.of.result.places;
      by_order = refl;
      totals = rising_totals _ _ _ _ taken.total taken.columns taken.distinct (rw c.as_slice.ensures at c.of.ensures.placed);
    }
