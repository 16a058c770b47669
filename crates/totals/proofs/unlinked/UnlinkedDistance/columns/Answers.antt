use Rattle.std.proofs.Common.{refl}
use Rattle.totals.proofs.Plain.{unlinked_closed}
use Rattle.totals.proofs.unlinked.UnlinkedDistance.columns.Goals as goal

pub returns : goal.returns
returns c = record { value = refl; few = (c.args.self.now.some, c.args.self.now.few); closed = unlinked_closed _ }
