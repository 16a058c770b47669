-- A layer that lists itself if it is tight.
use Rattle.std.proofs.Common.{◌≡◌, ℕ, Bool, true, false, List, length, None, Ok, Result, sym, refl, subst, arith}
use Rattle.std.proofs.lemmas.List.{take_all}
use Rattle.rules.specs.declared.window.Window.{Window}
use Rattle.rules.specs.Plans.{Trimmed}
use Rattle.rules.specs.declared.fault.Fault.{Fault}
use Rattle.rules.specs.Refusals.{answer, window_refusal}
use Rattle.rules.proofs.Failing.{answer_ok}
use Rattle.rules.specs.Meaning.{Scope, Meaning, Settled}
use Rattle.layers.specs.Owning.{own_rule}

-- where it is tight, it is settled by its own trim
pub own_settles : (s : Scope) (tight full : Bool) (ws : List Window) → length ws ≡ s.width → (tight ≡ true → Trimmed s.allows ws) → Settled (own_rule s tight full).joined ws
own_settles s true full ws e t = (rw (take_all s.width ws (omega arith)) (t refl), tt)
own_settles s false full ws e t = tt

-- windows that a layer takes are taken by the rule below it, whose columns were asked for first
pub taken_below : (m m' : Meaning) (n : ℕ) (vs : List Window) → m' ≡ m → n ≡ m.scope.width → window_refusal n vs ≡ None → window_refusal m'.scope.width vs ≡ None
taken_below m m' n vs same wide ok =
    subst (λ (o : Meaning). window_refusal o.scope.width vs ≡ None) (sym same) (subst (λ (k : ℕ). window_refusal k vs ≡ None) wide ok)

-- the same from the answer that took them
pub passed_below : (m m' : Meaning) (n : ℕ) (vs : List Window) → m' ≡ m → n ≡ m.scope.width → ◌≡◌ {A = Result (Unit {0}) Fault} (Ok tt) (answer (window_refusal n vs)) → window_refusal m'.scope.width vs ≡ None
passed_below m m' n vs same wide passed = taken_below m m' n vs same wide (answer_ok _ (sym passed))
