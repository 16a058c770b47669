-- What follows from the outcome of narrow for every rule.
use Rattle.std.proofs.Common.{◌≡◌, ◌≤◌, List, Ok, Err, Result, refl, subst, arith}
use Rattle.rules.specs.declared.window.Window.{Window}
use Rattle.rules.specs.declared.fault.Fault.{Fault}
use Rattle.rules.specs.declared.verdict.Verdict.{Verdict}
use Rattle.rules.specs.declared.verdict.Verdict.TheVariants.{Open, Void}
use Rattle.rules.specs.Meaning.{Meaning, Narrowed}
use Rattle.rules.specs.Trims.{Exact, Rests}
use Rattle.rules.proofs.Failing.{taken}
use Rattle.rules.proofs.Hulls.{hull_leaves, leaves_once, trimmed_stays}

module _ (m : Meaning) (some : 1 ≤ m.scope.width) (vs ws : List Window) where
  pub exact : (r : Result Verdict Fault) → Narrowed m vs r ws → Exact m vs r ws
  exact (Ok Open) n = λ t.
      let long = (taken m.scope.width vs n.accepted).1 in
      leaves_once m.scope.allows vs (omega arith) _ _ (record { within = n.shrinks; keeps = n.keeps; ends = n.ends t }) (hull_leaves m.scope.allows vs)
  exact (Ok Void) n = λ t.
      let long = (taken m.scope.width vs n.accepted).1 in
      leaves_once m.scope.allows vs (omega arith) _ _ n.none (hull_leaves m.scope.allows vs)
  exact (Err f) n = tt

  pub rests : (r : Result Verdict Fault) → Narrowed m vs r ws → Rests m vs r ws
  rests (Ok Open) n = λ t. (refl, trimmed_stays m.scope.allows vs ws t n.shrinks n.keeps)
  rests (Ok Void) n = λ t.
      let long = (taken m.scope.width vs n.accepted).1 in
      let s = t.first_end 0 (omega arith) in
      absurd (n.none s.plan s.allowed s.there)
  rests (Err f) n = tt

-- the outcome for a meaning that equals another
pub narrowed_at : (m n : Meaning) (vs ws : List Window) (r : Result Verdict Fault) → n ≡ m → Narrowed n vs r ws → Narrowed m vs r ws
narrowed_at m n vs ws r e h = subst (λ (o : Meaning). Narrowed o vs r ws) e h
