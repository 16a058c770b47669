use Rattle.std.proofs.Common.{refl}
use Rattle.rules.specs.Enumeration.{plans, hull}
use Rattle.differences.proofs.boards.worked_boards.Goals as goal

-- by going through all plans of each board
pub returns : goal.returns
unfolding plans hull
returns c = record { count = refl; stand = refl }
