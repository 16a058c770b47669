use Rattle.std.proofs.Common.{refl, arith}
use Rattle.differences.proofs.Means.{few_columns}
use Rattle.differences.proofs.apart.ApartRule.columns.Goals as goal

pub returns : goal.returns
returns c =
    let few = few_columns c.args.self.now in
    record { same = refl; value = c.width.ensures; few = (omega (arith, few, c.width.ensures), omega (arith, few, c.width.ensures)) }
