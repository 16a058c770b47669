use Rattle.std.proofs.Common.{refl}
use Rattle.differences.proofs.Tabling.{table_closed}
use Rattle.differences.proofs.distances.table.DistancesDistance.columns.Goals as goal

pub returns : goal.returns
returns c = record { value = refl; few = (c.args.self.now.some, c.args.self.now.few); closed = table_closed c.args.self.now }
