use Rattle.totals.proofs.Meeting.{Cutting}
use Rattle.totals.proofs.cutting.Settled.meet.Given as goal

abbrev pub invariant-loop-j : goal.invariant-loop-j
invariant-loop-j g l = Cutting (g.D.Distance.distance l.self.distances.now) l.self.windows.now l.self.total l.self.summands.now l.low l.high l.windows l.j
