use Rattle.std.proofs.Common.{[], refl, arith}
use Rattle.differences.proofs.Unlinking.{one_closed}
use Rattle.differences.proofs.Entering.{entered_none}
use Rattle.differences.proofs.Judging.{fresh_taken}
use Rattle.differences.proofs.Linking.{table_of}
use Rattle.differences.proofs.distances.Distances.fresh.Goals as goal

pub invariant_of-result : goal.invariant_of-result
invariant_of-result c = record { some = omega arith; few = omega arith; closed = ∣ one_closed _ c.unlinked-rows.ensures ∣₁ }

pub returns : goal.returns
returns c =
    let rows = c.unlinked-rows.result in
    let closed = one_closed rows c.unlinked-rows.ensures in
    table_of 1 [] rows (entered_none 1 [] rows (omega arith) c.unlinked-rows.ensures) _ (record { closed = closed; on = λ x o. o; back = λ x o. o }) refl fresh_taken
