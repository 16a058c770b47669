-- Plan order, and the best plan for a goal column.
use Rattle.std.specs.Prelude.{◌≡◌, ℕ, Bool, true, ◌⊎◌, List, [], ◌∷◌, ℤ, ◌<ℤ◌}
use Rattle.rules.specs.declared.window.Window.{Window}
use Rattle.rules.specs.Plans.{value_at, lies}

-- plan order: x comes before y where the first column at which they differ is smaller in x
abbrev pub Earlier : List ℤ → List ℤ → Type 0
Earlier [] y = ⊥
Earlier (a ∷ x) [] = ⊥
Earlier (a ∷ x) (b ∷ y) = (a <ℤ b) ⊎ ((a ≡ b) × Earlier x y)

-- the goal of y is larger than that of x, or equal, and y comes later
abbrev pub Beats : ℕ → List ℤ → List ℤ → Type 0
Beats g x y = (value_at x g <ℤ value_at y g) ⊎ ((value_at x g ≡ value_at y g) × Earlier x y)

-- x is allowed, lies in ws, and beats every other allowed plan that lies there
pub record Best (A : List ℤ → Bool) (ws : List Window) (g : ℕ) (x : List ℤ) : Type 0 where
  pub allowed : A x ≡ true
  pub held : lies x ws ≡ true
  pub beats : (y : List ℤ) → A y ≡ true → lies y ws ≡ true → (y ≡ x) ⊎ Beats g x y
