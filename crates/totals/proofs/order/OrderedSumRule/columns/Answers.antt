use Rattle.std.proofs.Common.{refl, ◌∙◌, arith}
use Rattle.totals.proofs.Rows.{row_columns, width_means}
use Rattle.totals.proofs.order.OrderedSumRule.columns.Goals as goal

pub returns : goal.returns
returns g c =
    let few = row_columns g.D.Order.kind c.args.self.now.terms in
    let width = c.width.ensures ∙ width_means g.D.Order.kind c.args.self.now.terms in
    record { same = refl; value = width; few = (omega (arith, few, width), omega (arith, few, width)) }
