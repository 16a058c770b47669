-- The first plan with the smallest goal is the best one, and the only best one.
use Rattle.std.proofs.Common.{◌≡◌, ℕ, Bool, true, false, cond, ◌⊎◌, List, [], ◌∷◌, ℤ, ◌≤ℤ◌, ◌<ℤ◌, Some, None, Option, refl, ap, inl, inr, ⊎_elim, arith}
use lib.Signed.{le_z}
use Rattle.std.proofs.lemmas.Int.{ints, by_lt_z}
use Rattle.rules.specs.declared.window.Window.{Window}
use Rattle.rules.specs.Plans.{value_at}
use Rattle.rules.specs.Order.{Earlier, Beats}
use Rattle.rules.specs.Enumeration.{Among, better, best_of, best, allowed, Seeks}
use Rattle.rules.proofs.Among.{Ordered}
use Rattle.rules.proofs.Plans.{allowed_in, in_allowed, allowed_ordered}
use Rattle.rules.proofs.Unique.{best_same}

-- x is the first of the plans xs that has the smallest goal
record First (g : ℕ) (xs : List (List ℤ)) (x : List ℤ) : Type 0 where
  one : Among x xs
  beats : (y : List ℤ) → Among y xs → (y ≡ x) ⊎ Beats g x y

abbrev Firsts : ℕ → List (List ℤ) → Option (List ℤ) → Type 0
Firsts g xs None = (x : List ℤ) → Among x xs → ⊥
Firsts g xs (Some x) = First g xs x

-- the goal of x is at most that of y, which is or beats z
onwards : (g : ℕ) (x y z : List ℤ) → value_at x g ≤ℤ value_at y g → Earlier x z → (z ≡ y) ⊎ Beats g y z → Beats g x z
onwards g x y z h e (inl q) = let s = ap (λ u. value_at u g) q in by_lt_z (value_at x g) (value_at z g) inl (λ m. inr (omega (arith, ints), e))
onwards g x y z h e (inr (inl l)) = inl (omega (arith, ints))
onwards g x y z h e (inr (inr q)) = let s = q.0 in by_lt_z (value_at x g) (value_at z g) inl (λ m. inr (omega (arith, ints), e))

pick : (g : ℕ) (x y : List ℤ) (xs : List (List ℤ)) (b : Bool) → le_z (value_at x g) (value_at y g) ≡ b → ((z : List ℤ) → Among z xs → Earlier x z) → First g xs y → First g (x ∷ xs) (cond b x y)
pick g x y xs true e o f =
    let le : value_at x g ≤ℤ value_at y g = omega (arith, ints) in
    record { one = inl refl; beats = λ z m. ⊎_elim inl (λ h. inr (onwards g x y z le (o z h) (f.beats z h))) m }
pick g x y xs false e o f =
    let lt : value_at y g <ℤ value_at x g = omega (arith, ints) in
    record { one = inr f.one; beats = λ z m. ⊎_elim (λ h. let s = ap (λ u. value_at u g) h in inr (inl (omega (arith, ints)))) (f.beats z) m }

better-firsts : (g : ℕ) (x : List ℤ) (xs : List (List ℤ)) (o : Option (List ℤ)) → ((z : List ℤ) → Among z xs → Earlier x z) → Firsts g xs o → Firsts g (x ∷ xs) (better g x o)
better-firsts g x xs None o f = record { one = inl refl; beats = λ z m. ⊎_elim inl (λ h. absurd (f z h)) m }
better-firsts g x xs (Some y) o f = pick g x y xs (le_z (value_at x g) (value_at y g)) refl o f

best-firsts : (g : ℕ) (xs : List (List ℤ)) → Ordered Earlier xs → Firsts g xs (best_of g xs)
best-firsts g [] o = λ x m. m
best-firsts g (x ∷ xs) o = better-firsts g x xs (best_of g xs) o.0 (best-firsts g xs o.1)

firsts_seek : (A : List ℤ → Bool) (ws : List Window) (g : ℕ) (o : Option (List ℤ)) → Firsts g (allowed A ws) o → Seeks A ws g o
firsts_seek A ws g None f = λ x a h. f x (in_allowed A ws x a h)
firsts_seek A ws g (Some x) f =
    let r = allowed_in A ws x f.one in
    record { allowed = r.0; held = r.1; beats = λ y a h. f.beats y (in_allowed A ws y a h) }

pub best_seeks : (A : List ℤ → Bool) (ws : List Window) (g : ℕ) → Seeks A ws g (best A g ws)
unfolding best
best_seeks A ws g = firsts_seek A ws g (best A g ws) (best-firsts g (allowed A ws) (allowed_ordered A ws))

pub seeks_once : (A : List ℤ → Bool) (ws : List Window) (g : ℕ) (o r : Option (List ℤ)) → Seeks A ws g o → Seeks A ws g r → o ≡ r
seeks_once A ws g None None p q = refl
seeks_once A ws g None (Some y) p q = absurd (p y q.allowed q.held)
seeks_once A ws g (Some x) None p q = absurd (q x p.allowed p.held)
seeks_once A ws g (Some x) (Some y) p q = ap Some (best_same A A ws (λ z h. refl) g x y p q)
