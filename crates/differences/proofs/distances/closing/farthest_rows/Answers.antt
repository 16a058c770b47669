use Rattle.std.proofs.Common.{refl}
use Rattle.differences.proofs.Unlinking.{all_far}
use Rattle.differences.proofs.distances.closing.farthest_rows.Goals as goal

pub returns : goal.returns
returns c = all_far _ refl
