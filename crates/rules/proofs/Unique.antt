-- One plan only is the best, and it goes by the plans in the windows alone.
use Rattle.std.proofs.Common.{◌≡◌, ℕ, Bool, true, ◌⊎◌, List, [], ◌∷◌, ℤ, sym, ◌∙◌, inl, inr, arith}
use Rattle.std.proofs.lemmas.Int.{ints}
use Rattle.rules.specs.declared.window.Window.{Window}
use Rattle.rules.specs.Plans.{lies}
use Rattle.rules.specs.Order.{Earlier, Beats, Best}

never_both : (x y : List ℤ) → Earlier x y → Earlier y x → ⊥
never_both [] y p q = p
never_both (a ∷ x) [] p q = p
never_both (a ∷ x) (b ∷ y) (inl p) (inl q) = omega (arith, ints)
never_both (a ∷ x) (b ∷ y) (inl p) (inr q) = let e = q.0 in omega (arith, ints)
never_both (a ∷ x) (b ∷ y) (inr p) (inl q) = let e = p.0 in omega (arith, ints)
never_both (a ∷ x) (b ∷ y) (inr p) (inr q) = never_both x y p.1 q.1

never_beat_both : (g : ℕ) (x y : List ℤ) → Beats g x y → Beats g y x → ⊥
never_beat_both g x y (inl p) (inl q) = omega (arith, ints)
never_beat_both g x y (inl p) (inr q) = let e = q.0 in omega (arith, ints)
never_beat_both g x y (inr p) (inl q) = let e = p.0 in omega (arith, ints)
never_beat_both g x y (inr p) (inr q) = never_both x y p.1 q.1

one_beats : (g : ℕ) (x y : List ℤ) → (y ≡ x) ⊎ Beats g x y → (x ≡ y) ⊎ Beats g y x → x ≡ y
one_beats g x y (inl p) q = sym p
one_beats g x y (inr p) (inl q) = q
one_beats g x y (inr p) (inr q) = absurd (never_beat_both g x y p q)

-- A and B allow the same plans in ws
module _ (A B : List ℤ → Bool) (ws : List Window) (same : (x : List ℤ) → lies x ws ≡ true → A x ≡ B x) where
  pub best_same : (g : ℕ) (x y : List ℤ) → Best A ws g x → Best B ws g y → x ≡ y
  best_same g x y p q =
      one_beats g x y
      (p.beats y (same y q.held ∙ q.allowed) q.held)
      (q.beats x (sym (same x p.held) ∙ p.allowed) p.held)
