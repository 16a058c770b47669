-- What stands in a list, and lists in order.
use Rattle.std.proofs.Common.{◌≡◌, Bool, true, false, cond, ◌⊎◌, List, [], ◌∷◌, ◌++◌, map, filter, sym, refl, ap, ◌∙◌, subst, inl, inr, ⊎_elim, arith}
use Rattle.rules.specs.Enumeration.{Among}

module _ {X : Type 0} where
  pub among_left : (x : X) (xs ys : List X) → Among x xs → Among x (xs ++ ys)
  among_left x [] ys h = absurd h
  among_left x (z ∷ xs) ys (inl e) = inl e
  among_left x (z ∷ xs) ys (inr h) = inr (among_left x xs ys h)

  pub among_right : (x : X) (xs ys : List X) → Among x ys → Among x (xs ++ ys)
  among_right x [] ys h = h
  among_right x (z ∷ xs) ys h = inr (among_right x xs ys h)

  pub among_cases : (x : X) (xs ys : List X) → Among x (xs ++ ys) → Among x xs ⊎ Among x ys
  among_cases x [] ys h = inr h
  among_cases x (z ∷ xs) ys (inl e) = inl (inl e)
  among_cases x (z ∷ xs) ys (inr h) = ⊎_elim (λ l. inl (inr l)) (λ r. inr r) (among_cases x xs ys h)

  kept_head : (p : X → Bool) (y : X) (b : Bool) → p y ≡ b → (x : X) (xs : List X) → Among x (cond b (y ∷ xs) xs) → ((x ≡ y) × (p y ≡ true)) ⊎ Among x xs
  kept_head p y true e x xs (inl h) = inl (h, e)
  kept_head p y true e x xs (inr h) = inr h
  kept_head p y false e x xs h = inr h

  pub among_kept : (p : X → Bool) (x : X) (xs : List X) → Among x (filter p xs) → (p x ≡ true) × Among x xs
  among_kept p x [] h = absurd h
  among_kept p x (y ∷ xs) h =
      ⊎_elim (λ e. (ap p e.0 ∙ e.1, inl e.0)) (λ m. let r = among_kept p x xs m in (r.0, inr r.1))
      (kept_head p y (p y) refl x (filter p xs) h)

  head_kept : (b : Bool) (x y : X) (xs : List X) → (x ≡ y) × (b ≡ true) → Among x (cond b (y ∷ xs) xs)
  head_kept true x y xs h = inl h.0
  head_kept false x y xs h = grind arith

  tail_kept : (b : Bool) (x y : X) (xs : List X) → Among x xs → Among x (cond b (y ∷ xs) xs)
  tail_kept true x y xs h = inr h
  tail_kept false x y xs h = h

  pub kept_among : (p : X → Bool) (x : X) (xs : List X) → p x ≡ true → Among x xs → Among x (filter p xs)
  kept_among p x [] e h = absurd h
  kept_among p x (y ∷ xs) e (inl h) = head_kept (p y) x y _ (h, ap p (sym h) ∙ e)
  kept_among p x (y ∷ xs) e (inr h) = tail_kept (p y) x y _ (kept_among p x xs e h)

  -- each element stands in the relation R to all that come after it
  abbrev pub Ordered : (X → X → Type 0) → List X → Type 0
  Ordered R [] = Unit {0}
  Ordered R (x ∷ xs) = ((y : X) → Among y xs → R x y) × Ordered R xs

  pub ordered_append : (R : X → X → Type 0) (xs ys : List X) → Ordered R xs → Ordered R ys → ((x y : X) → Among x xs → Among y ys → R x y) → Ordered R (xs ++ ys)
  ordered_append R [] ys p q h = q
  ordered_append R (x ∷ xs) ys p q h =
      (λ y m. ⊎_elim (p.0 y) (h x y (inl refl)) (among_cases y xs ys m), ordered_append R xs ys p.1 q (λ z y a b. h z y (inr a) b))

  ordered_head : (R : X → X → Type 0) (b : Bool) (x : X) (xs : List X) → ((y : X) → Among y xs → R x y) → Ordered R xs → Ordered R (cond b (x ∷ xs) xs)
  ordered_head R true x xs h o = (h, o)
  ordered_head R false x xs h o = o

  pub ordered_kept : (R : X → X → Type 0) (p : X → Bool) (xs : List X) → Ordered R xs → Ordered R (filter p xs)
  ordered_kept R p [] o = tt
  ordered_kept R p (x ∷ xs) o = ordered_head R (p x) x (filter p xs) (λ y m. o.0 y (among_kept p y xs m).1) (ordered_kept R p xs o.1)

module _ {X Y : Type 0} (f : X → Y) where
  pub among_map : (x : X) (xs : List X) → Among x xs → Among (f x) (map f xs)
  among_map x [] h = absurd h
  among_map x (z ∷ xs) (inl e) = inl (ap f e)
  among_map x (z ∷ xs) (inr h) = inr (among_map x xs h)

  pub map_among : (y : Y) (xs : List X) → Among y (map f xs) → (x : X) × Among x xs × (y ≡ f x)
  map_among y [] h = absurd h
  map_among y (z ∷ xs) (inl e) = (z, inl refl, e)
  map_among y (z ∷ xs) (inr h) = let r = map_among y xs h in (r.0, inr r.1, r.2)

  pub ordered_map : (R : X → X → Type 0) (S : Y → Y → Type 0) → ((a b : X) → R a b → S (f a) (f b)) → (xs : List X) → Ordered R xs → Ordered S (map f xs)
  ordered_map R S h [] o = tt
  ordered_map R S h (x ∷ xs) o =
      (λ y m. let r = map_among y xs m in subst (S (f x)) (sym r.2) (h x r.0 (o.0 r.0 r.1)), ordered_map R S h xs o.1)
