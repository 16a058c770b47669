-- Every plan of a list of windows, one after another; the windows that a set of plans leaves, and its best plan.
use Rattle.std.specs.Prelude.{◌≡◌, ℕ, zero, suc, ◌<◌, Bool, true, cond, ◌⊎◌, List, [], ◌∷◌, ◌++◌, map, length, ℤ, pos, negsuc, ◌+ℤ◌, ◌-ℤ◌, Some, None, filter, Option, int_le}
use Rattle.std.specs.Int.{int_max, int_min}
use Rattle.rules.specs.declared.window.Window.{Window}
use Rattle.rules.specs.Plans.{value_at, lies, inside, Keeps, NoPlan, Trimmed}
use Rattle.rules.specs.Order.{Best}

-- x stands in the list
abbrev pub Among : {X : Type 0} → X → List X → Type 0
Among x [] = ⊥
Among x (y ∷ ys) = (x ≡ y) ⊎ Among x ys

-- n values, upwards from v
abbrev pub upwards : ℤ → ℕ → List ℤ
upwards v zero = []
upwards v (suc n) = v ∷ upwards (v +ℤ pos 1) n

-- how many numbers there are up to z, from 0 on and without z
abbrev pub below : ℤ → ℕ
below (pos n) = n
below (negsuc n) = 0

-- the values of a window, upwards
abbrev pub values : Window → List ℤ
values w = upwards w.first (below (w.last +ℤ pos 1 -ℤ w.first))

-- each of the values before each of the plans
abbrev pub before_each : List ℤ → List (List ℤ) → List (List ℤ)
before_each [] xs = []
before_each (v ∷ vs) xs = map (λ x. v ∷ x) xs ++ before_each vs xs

-- the plans that lie in ws, in plan order
unfoldable pub plans : List Window → List (List ℤ)
plans [] = [] ∷ []
plans (w ∷ ws) = before_each (values w) (plans ws)

-- the plans of A that lie in ws, in plan order
abbrev pub allowed : (List ℤ → Bool) → List Window → List (List ℤ)
allowed A ws = filter A (plans ws)

abbrev pub point : ℤ → Window
point v = record { first = v; last = v }

-- the windows ws, widened until x lies in them
abbrev pub widened : List ℤ → List Window → List Window
widened [] ws = []
widened (v ∷ x) [] = []
widened (v ∷ x) (w ∷ ws) = record { first = int_min v w.first; last = int_max v w.last } ∷ widened x ws

abbrev pub cover : List ℤ → Option (List Window) → Option (List Window)
cover x None = Some (map point x)
cover x (Some ws) = Some (widened x ws)

-- the least windows that hold all of a list of plans
abbrev pub hull_of : List (List ℤ) → Option (List Window)
hull_of [] = None
hull_of (x ∷ xs) = cover x (hull_of xs)

-- the least windows that hold each plan of A that lies in ws
unfoldable pub hull : (List ℤ → Bool) → List Window → Option (List Window)
hull A ws = hull_of (allowed A ws)

abbrev pub better : ℕ → List ℤ → Option (List ℤ) → Option (List ℤ)
better g x None = Some x
better g x (Some y) = Some (cond (int_le (value_at x g) (value_at y g)) x y)

-- of a list of plans the first that has the smallest goal
abbrev pub best_of : ℕ → List (List ℤ) → Option (List ℤ)
best_of g [] = None
best_of g (x ∷ xs) = better g x (best_of g xs)

-- the plan of A in ws that has the smallest goal, and of equals the earliest
unfoldable pub best : (List ℤ → Bool) → ℕ → List Window → Option (List ℤ)
best A g ws = best_of g (allowed A ws)

-- vs is what A leaves of ws: inside it, with every plan of A that lay there, and each end at such a plan
pub record Left (A : List ℤ → Bool) (ws vs : List Window) : Type 0 where
  pub within : inside vs ws ≡ true
  pub keeps : Keeps A ws vs
  pub ends : Trimmed A vs

-- nothing where no plan of A lies in ws, else what A leaves of ws
abbrev pub Leaves : (List ℤ → Bool) → List Window → Option (List Window) → Type 0
Leaves A ws None = NoPlan A ws
Leaves A ws (Some vs) = Left A ws vs

-- nothing where no plan of A lies in ws, else the best of them
abbrev pub Seeks : (List ℤ → Bool) → List Window → ℕ → Option (List ℤ) → Type 0
Seeks A ws g None = NoPlan A ws
Seeks A ws g (Some x) = Best A ws g x

-- what the enumeration finds is what the words above say, and nothing else is
pub record Enumerates (A : List ℤ → Bool) (ws : List Window) : Type 0 where
  pub plans_are : (x : List ℤ) → (Among x (plans ws) → lies x ws ≡ true) × (lies x ws ≡ true → Among x (plans ws))
  pub leaves : Leaves A ws (hull A ws)
  pub leaves_only : 0 < length ws → (o : Option (List Window)) → Leaves A ws o → o ≡ hull A ws
  pub seeks : (g : ℕ) → Seeks A ws g (best A g ws)
  pub seeks_only : (g : ℕ) (o : Option (List ℤ)) → Seeks A ws g o → o ≡ best A g ws
