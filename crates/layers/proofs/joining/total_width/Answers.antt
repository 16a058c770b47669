use Rattle.std.proofs.Common.{rules}
use Rattle.layers.proofs.Widths.{total_most}
use Rattle.layers.proofs.joining.total_width.Goals as goal

pub sum-requires-clause-fits : goal.sum-requires-clause-fits
sum-requires-clause-fits c =
    let most = total_most c.args.windows.now c.requires.lawful c.requires.few in search rules
