use Rattle.std.proofs.Common.{refl}
use Rattle.totals.proofs.Chained.{chain_closed}
use Rattle.totals.proofs.chain.ChainDistance.columns.Goals as goal

pub returns : goal.returns
returns c = record { value = refl; few = (c.args.self.now.some, c.args.self.now.few); closed = chain_closed c.args.self.now.places _ }
