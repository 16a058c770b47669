use Rattle.std.proofs.Common.{refl, arith}
use Rattle.totals.proofs.Placing.{placing_none, placing_more, placing_all}
use Rattle.totals.proofs.chain.Chain.of.Goals as goal

pub loop-place-init : goal.loop-place-init
loop-place-init c = placing_none _

pub loop-place-preserved : goal.loop-place-preserved
loop-place-preserved c =
    placing_more _ c.loop-place.places c.loop-place.place c.loop-place-test.true
    (omega (arith, c.requires.there.there c.loop-place.place c.loop-place-test.true)) c.requires.distinct c.loop-place.invariant

pub returns : goal.returns
returns c = record { width = refl; placed = placing_all _ _ _ (omega arith) c.loop-place.invariant }
