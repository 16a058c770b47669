use Rattle.std.proofs.Common.{arith}
use Rattle.std.proofs.lemmas.Int.{ints}
use Rattle.totals.proofs.Ends.{ends_at}
use Rattle.totals.proofs.cutting.turned_first.Goals as goal

pub overflow_sub-result : goal.overflow_sub-result
overflow_sub-result c = let e = ends_at c.args.windows.now c.args.i c.requires.lawful c.requires.here in omega (arith, ints)

pub returns : goal.returns
returns c = let e = ends_at c.args.windows.now c.args.i c.requires.lawful c.requires.here in omega (arith, ints)
