-- The enumeration is what its laws say.
use Rattle.std.proofs.Common.{Bool, List, ℤ}
use Rattle.rules.specs.declared.window.Window.{Window}
use Rattle.rules.specs.Enumeration.{Enumerates}
use Rattle.rules.proofs.Plans.{plans_lie, lie_plans}
use Rattle.rules.proofs.Hulls.{hull_leaves, leaves_once}
use Rattle.rules.proofs.Bests.{best_seeks, seeks_once}

pub enumerates : (A : List ℤ → Bool) (ws : List Window) → Enumerates A ws
enumerates A ws =
    record {
      plans_are = λ x. (plans_lie ws x, lie_plans ws x);
      leaves = hull_leaves A ws;
      leaves_only = λ some o l. leaves_once A ws some o _ l (hull_leaves A ws);
      seeks = best_seeks A ws;
      seeks_only = λ g o s. seeks_once A ws g o _ s (best_seeks A ws g);
    }
