use Rattle.std.proofs.Common.{◌≡◌, length}
use Rattle.rings.proofs.Entries.{Entering}
use Rattle.rings.proofs.walks.Table.enter.Given as goal

abbrev pub invariant-loop-link : goal.invariant-loop-link
invariant-loop-link l = record { columns : l.self.columns ≡ l.fn.self.columns; long : length l.self.rows ≡ 32; entering : Entering l.fn.self.columns l.links l.self.rows l.link-index }
