use Rattle.std.proofs.Common.{rules}
use Rattle.totals.proofs.cutting.fill_tops.Goals as goal

pub returns : goal.returns
returns c = record { long = c.fill.ensures.long; each = λ a l. let p = c.fill.ensures.each a l in search rules }
