use Rattle.totals.specs.Reaching.{limits}
use Rattle.totals.proofs.Jumping.{Partly}
use Rattle.totals.proofs.reaching.Limits.reach.Given as goal

abbrev pub invariant-loop-a : goal.invariant-loop-a
invariant-loop-a l = Partly (limits l.self.tops.now l.self.ways.now) l.v l.a l.sum l.moving
