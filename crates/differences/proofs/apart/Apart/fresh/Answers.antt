use Rattle.std.proofs.Common.{refl}
use Rattle.differences.specs.Apart.{apart_refusal}
use Rattle.differences.proofs.apart.Apart.fresh.Goals as goal

pub returns : goal.returns
unfolding apart_refusal
returns c = refl
