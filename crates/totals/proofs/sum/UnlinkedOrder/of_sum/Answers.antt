use Rattle.std.proofs.Common.{eqb, refl}
use Rattle.totals.proofs.Judging.{sum_taken}
use Rattle.totals.proofs.Plain.{plain_totals}
use Rattle.totals.proofs.sum.UnlinkedOrder.of_sum.Goals as goal

pub of-requires : goal.of-requires
of-requires c = let taken = sum_taken _ _ _ c.requires in record { some = taken.some; few = taken.few }

pub returns : goal.returns
returns c =
    let taken = sum_taken _ _ _ c.requires in
    record { width_is = c.of.ensures; order = eqb; by_order = refl; totals = plain_totals _ _ _ taken.total taken.columns taken.distinct }
