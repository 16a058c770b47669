use Rattle.std.proofs.Common.{ℕ, ◌<◌}
use Rattle.totals.specs.Reaching.{number_at}
use Rattle.totals.specs.Cuts.{column_at}
use Rattle.totals.proofs.cutting.fill.Given as goal

abbrev pub invariant-loop-a : goal.invariant-loop-a
invariant-loop-a g l = (q : ℕ) → q < l.a → goal.F-post g l.number (column_at l.summands q) (number_at l.row q)
