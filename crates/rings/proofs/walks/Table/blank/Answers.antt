use Rattle.rings.proofs.Offered.{blank_all}
use Rattle.rings.proofs.walks.Table.blank.Goals as goal

pub returns-clause-blank : goal.returns-clause-blank
returns-clause-blank c = blank_all 32 32
