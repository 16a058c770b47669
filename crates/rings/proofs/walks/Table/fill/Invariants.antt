use Rattle.std.proofs.Common.{◌≡◌}
use Rattle.rings.specs.Tables.{at}
use Rattle.rings.proofs.Entries.{Closing}
use Rattle.rings.proofs.walks.Table.fill.Given as goal

abbrev pub invariant-loop-m : goal.invariant-loop-m
invariant-loop-m l = record { columns : l.self.columns ≡ l.fn.self.columns; closing : Closing l.fn.self.columns l.links (at l.self.rows) l.m }
