use Rattle.differences.specs.Ends.{first_at, last_at}
use Rattle.totals.specs.Cuts.{column_at}
use Rattle.totals.proofs.Summing.{Summing}
use Rattle.totals.proofs.cutting.Settled.sums.Given as goal

abbrev pub invariant-loop-column : goal.invariant-loop-column
invariant-loop-column g l =
    Summing (λ a. first_at l.self.windows.now (column_at l.self.summands.now a)) l.column-index l.least
    × Summing (λ a. last_at l.self.windows.now (column_at l.self.summands.now a)) l.column-index l.most
