use Rattle.std.proofs.Common.{◌-ℤ◌, nat_abs}
use Rattle.totals.specs.Reaching.{limits}
use Rattle.totals.proofs.Jumping.{Jumping}
use Rattle.totals.proofs.reaching.Limits.least_reaching.Given as goal

abbrev pub invariant-loop-at : goal.invariant-loop-at
invariant-loop-at l = Jumping (limits l.self.tops.now l.self.ways.now) l.goal l.first l.last l.v l.at.sum l.at.moving

abbrev pub decreases-loop-at : goal.decreases-loop-at
decreases-loop-at l = nat_abs (l.last -ℤ l.v)
