use Rattle.totals.proofs.Placing.{Placing}
use Rattle.totals.proofs.chain.Chain.of.Given as goal

abbrev pub invariant-loop-place : goal.invariant-loop-place
invariant-loop-place l = Placing l.summands l.places l.place
