-- The enumerated plans are those that lie in the windows, in plan order.
use Rattle.std.proofs.Common.{◌≡◌, ℕ, zero, suc, Bool, true, ◌&&◌, List, [], ◌∷◌, map, ℤ, pos, negsuc, ◌+ℤ◌, ◌-ℤ◌, ◌≤ℤ◌, ◌<ℤ◌, refl, inl, inr, ⊎_elim, arith}
use lib.Signed.{le_z}
use Rattle.std.proofs.lemmas.Int.{ints, by_lt_z}
use Rattle.std.proofs.lemmas.Bool.{and_parts, and_from}
use Rattle.rules.specs.declared.window.Window.{Window}
use Rattle.rules.specs.Plans.{lies}
use Rattle.rules.specs.Order.{Earlier}
use Rattle.rules.specs.Enumeration.{Among, upwards, below, values, before_each, plans, allowed}
use Rattle.rules.proofs.Among.{among_left, among_right, among_cases, among_kept, kept_among, Ordered, ordered_append, ordered_kept, ordered_map, among_map, map_among}

pub upwards_in : (v : ℤ) (n : ℕ) (u : ℤ) → Among u (upwards v n) → (v ≤ℤ u) × (u <ℤ (v +ℤ pos n))
upwards_in v zero u h = absurd h
upwards_in v (suc n) u (inl e) = omega (arith, ints)
upwards_in v (suc n) u (inr h) = let r = upwards_in (v +ℤ pos 1) n u h in omega (arith, ints)

in_upwards : (v : ℤ) (n : ℕ) (u : ℤ) → v ≤ℤ u → u <ℤ (v +ℤ pos n) → Among u (upwards v n)
in_upwards v zero u p q = omega (arith, ints)
in_upwards v (suc n) u p q = by_lt_z v u (λ l. inr (in_upwards (v +ℤ pos 1) n u (omega (arith, ints)) (omega (arith, ints)))) (λ l. inl (omega (arith, ints)))

ordered_upwards : (v : ℤ) (n : ℕ) → Ordered ◌<ℤ◌ (upwards v n)
ordered_upwards v zero = tt
ordered_upwards v (suc n) = (λ u m. let r = upwards_in (v +ℤ pos 1) n u m in omega (arith, ints), ordered_upwards (v +ℤ pos 1) n)

below_under : (z u v : ℤ) → u <ℤ (v +ℤ pos (below z)) → v ≤ℤ u → u <ℤ (v +ℤ z)
below_under (pos n) u v h l = h
below_under (negsuc n) u v h l = omega (arith, ints)

under_below : (z u v : ℤ) → u <ℤ (v +ℤ z) → u <ℤ (v +ℤ pos (below z))
under_below (pos n) u v h = h
under_below (negsuc n) u v h = omega (arith, ints)

pub values_in : (w : Window) (u : ℤ) → Among u (values w) → (le_z w.first u && le_z u w.last) ≡ true
values_in w u m =
    let r = upwards_in w.first _ u m in
    let s = below_under (w.last +ℤ pos 1 -ℤ w.first) u w.first r.1 r.0 in
    grind (arith, ints)

pub in_values : (w : Window) (u : ℤ) → (le_z w.first u && le_z u w.last) ≡ true → Among u (values w)
in_values w u h =
    let low : w.first ≤ℤ u = grind (arith, ints) in
    let high : u ≤ℤ w.last = grind (arith, ints) in
    in_upwards w.first _ u low (under_below (w.last +ℤ pos 1 -ℤ w.first) u w.first (omega (arith, ints)))

each_in : (vs : List ℤ) (xs : List (List ℤ)) (y : List ℤ) → Among y (before_each vs xs) → (v : ℤ) × (x : List ℤ) × Among v vs × Among x xs × (y ≡ v ∷ x)
each_in [] xs y h = absurd h
each_in (v ∷ vs) xs y h =
    ⊎_elim
    (λ l. let r = map_among (λ x. v ∷ x) y xs l in (v, r.0, inl refl, r.1, r.2))
    (λ l. let r = each_in vs xs y l in (r.0, r.1, inr r.2, r.3, r.4))
    (among_cases y (map (λ x. v ∷ x) xs) (before_each vs xs) h)

in_each : (vs : List ℤ) (xs : List (List ℤ)) (v : ℤ) (x : List ℤ) → Among v vs → Among x xs → Among (v ∷ x) (before_each vs xs)
in_each [] xs v x h k = absurd h
in_each (u ∷ vs) xs v x (inl e) k = among_left (v ∷ x) (map (λ y. u ∷ y) xs) (before_each vs xs) (rw e (among_map (λ y. u ∷ y) x xs k))
in_each (u ∷ vs) xs v x (inr h) k = among_right (v ∷ x) (map (λ y. u ∷ y) xs) (before_each vs xs) (in_each vs xs v x h k)

pub plans_lie : (ws : List Window) (x : List ℤ) → Among x (plans ws) → lies x ws ≡ true
unfolding plans
plans_lie [] x (inl e) = rw e
plans_lie [] x (inr h) = absurd h
plans_lie (w ∷ ws) x h =
    let r = each_in (values w) (plans ws) x h in
    let first = values_in w r.0 r.2 in
    let rest = plans_lie ws r.1 r.3 in
    rw r.4 (and_from (le_z w.first r.0 && le_z r.0 w.last) (lies r.1 ws) first rest)

pub lie_plans : (ws : List Window) (x : List ℤ) → lies x ws ≡ true → Among x (plans ws)
unfolding plans
lie_plans [] [] h = inl refl
lie_plans [] (v ∷ x) h = grind arith
lie_plans (w ∷ ws) [] h = grind arith
lie_plans (w ∷ ws) (v ∷ x) h =
    let r = and_parts (le_z w.first v && le_z v w.last) (lies x ws) h in
    in_each (values w) (plans ws) v x (in_values w v r.0) (lie_plans ws x r.1)

ordered_each : (vs : List ℤ) (xs : List (List ℤ)) → Ordered ◌<ℤ◌ vs → Ordered Earlier xs → Ordered Earlier (before_each vs xs)
ordered_each [] xs o p = tt
ordered_each (v ∷ vs) xs o p =
    ordered_append Earlier (map (λ x. v ∷ x) xs) (before_each vs xs)
    (ordered_map (λ x. v ∷ x) Earlier Earlier (λ a b e. inr (refl, e)) xs p)
    (ordered_each vs xs o.1 p)
    (λ x y m n.
    let a = map_among (λ z. v ∷ z) x xs m in
    let b = each_in vs xs y n in
    rw (a.2, b.4) (inl (o.0 b.0 b.2)))

pub plans_ordered : (ws : List Window) → Ordered Earlier (plans ws)
unfolding plans
plans_ordered [] = (λ y m. absurd m, tt)
plans_ordered (w ∷ ws) = ordered_each (values w) (plans ws) (ordered_upwards w.first _) (plans_ordered ws)

pub allowed_in : (A : List ℤ → Bool) (ws : List Window) (x : List ℤ) → Among x (allowed A ws) → (A x ≡ true) × (lies x ws ≡ true)
allowed_in A ws x m = let r = among_kept A x (plans ws) m in (r.0, plans_lie ws x r.1)

pub in_allowed : (A : List ℤ → Bool) (ws : List Window) (x : List ℤ) → A x ≡ true → lies x ws ≡ true → Among x (allowed A ws)
in_allowed A ws x a h = kept_among A x (plans ws) a (lie_plans ws x h)

pub allowed_ordered : (A : List ℤ → Bool) (ws : List Window) → Ordered Earlier (allowed A ws)
allowed_ordered A ws = ordered_kept Earlier A (plans ws) (plans_ordered ws)
