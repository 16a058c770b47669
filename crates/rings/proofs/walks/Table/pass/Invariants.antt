use Rattle.rings.proofs.Rows.{Passing}
use Rattle.rings.proofs.walks.Table.pass.Given as goal

abbrev pub invariant-loop-row : goal.invariant-loop-row
invariant-loop-row l = Passing l.columns l.m l.fn.self.rows l.row-items l.row-index
