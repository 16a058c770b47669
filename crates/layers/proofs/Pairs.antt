-- Two rules together mean what a list of the two means.
use Rattle.std.proofs.Common.{◌≡◌, ◌≤◌, max, Bool, true, false, ◌&&◌, List, [], ◌∷◌, ◌++◌, Result, refl, ap, ◌∙◌, arith}
use Rattle.std.proofs.lemmas.List.{append-nil}
use Rattle.rules.specs.declared.window.Window.{Window}
use Rattle.rules.specs.declared.fault.Fault.{Fault}
use Rattle.rules.specs.declared.verdict.Verdict.{Verdict}
use Rattle.rules.specs.Meaning.{Scope, Meaning, Narrowed}
use Rattle.rules.proofs.Trimming.{narrowed_at}
use Rattle.layers.specs.Leading.{leading, clipped}
use Rattle.layers.specs.Joining.{most_columns, joint}
use Rattle.layers.specs.Both.{both_meaning}

and_true : (p q : Bool) → (p && (q && true)) ≡ (p && q)
and_true true true = refl
and_true true false = refl
and_true false q = refl

pub joint_pair : (a b : Meaning) → 1 ≤ max a.scope.width b.scope.width → joint (a ∷ b ∷ []) ≡ both_meaning a b
joint_pair a b some =
    let wide : most_columns (a ∷ b ∷ []) ≡ max a.scope.width b.scope.width = omega arith in
    let together : clipped a ++ (clipped b ++ []) ≡ clipped a ++ clipped b = ap (λ (ss : List Scope). clipped a ++ ss) (append-nil (clipped b)) in
    λ i. record {
      scope = record { width = wide i; allows = λ x. and_true (leading a.scope.width a.scope.allows x) (leading b.scope.width b.scope.allows x) i };
      tight = false;
      full = false;
      joined = together i;
    }

-- what narrow says, from what the list of the two says
module _ (a b a' b' : Meaning) (same : both_meaning a' b' ≡ both_meaning a b) where
  pub pair_narrowed : (vs ws : List Window) (r : Result Verdict Fault) → 1 ≤ (both_meaning a b).scope.width → Narrowed (joint (a' ∷ b' ∷ [])) vs r ws → Narrowed (both_meaning a b) vs r ws
  pair_narrowed vs ws r some n =
      let wide : (both_meaning a' b').scope.width ≡ (both_meaning a b).scope.width = ap (λ (m : Meaning). m.scope.width) same in
      narrowed_at (both_meaning a b) (joint (a' ∷ b' ∷ [])) vs ws r (joint_pair a' b' (omega arith) ∙ same) n

  pub pair_same : (a'' b'' : Meaning) → ◌≡◌ {A = List Meaning} (a'' ∷ b'' ∷ []) (a' ∷ b' ∷ []) → both_meaning a'' b'' ≡ both_meaning a b
  pair_same a'' b'' e =
      let p : a'' ≡ a' = cc in
      let q : b'' ≡ b' = cc in
      (λ i. both_meaning (p i) (q i)) ∙ same
