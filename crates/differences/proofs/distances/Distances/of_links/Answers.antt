use Rattle.std.proofs.Common.{sym}
use Rattle.rules.proofs.Failing.{answer_ok}
use Rattle.differences.proofs.distances.Distances.of_links.Goals as goal

pub closed-requires : goal.closed-requires
closed-requires c = answer_ok _ (sym c.in_ok-check_links.ensures.value)
