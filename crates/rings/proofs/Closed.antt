-- What a closed table of walks tells of rings and ties.
use Rattle.std.proofs.Common.{◌≡◌, ℕ, zero, suc, ◌<◌, Bool, true, false, not, ◌&&◌, eqb, List, [], ◌∷◌, ℤ, pos, ◌+ℤ◌, nat_abs, ◌≤ℤ◌, ◌<ℤ◌, is_some, Some, None, Option, sym, refl, subst, ⊎_elim, arith}
use Rattle.std.specs.List.{list_any, range_with_len, ContainsAt}
use Rattle.std.proofs.lemmas.List.Folds.{Any-from_list_any, list_any-from_Any}
use Rattle.std.proofs.lemmas.List.FromFn.{length-range_with_len, get_or-range_with_len}
use Rattle.std.proofs.lemmas.Int.{ints, by_lt_z}
use Rattle.std.proofs.lemmas.Bool.{eqb-true, eq-eqb, or_cases, or_left, or_right, and_parts, and_from, both_ways, not-true, not_from_false, eqb-false, ne_eqb}
use Rattle.differences.specs.declared.link.Link.{Link}
use Rattle.rings.specs.Rings.{IsWalk, walk_length, Walk, RingBelow, Tied}
use Rattle.rings.specs.Tables.{AtMost, Convex, NoneBelow, Walks, reaches, negative, ring_by, on_ring_below, zero_sum, shows_tie}
use Rattle.rings.proofs.Steps.{join, some_is, most_is, most_some, most_less}

pub any_some : (n : ℕ) (f : ℕ → Bool) → list_any f (range_with_len 0 n) ≡ true → (i : ℕ) × (i < n) × (f i ≡ true)
any_some n f h =
    let (k, i, l, e, t) = Any-from_list_any f (range_with_len 0 n) h in
    (i, omega (arith, length-range_with_len 0 n, get_or-range_with_len 0 n k i (omega (arith, length-range_with_len 0 n))), t)

pub some_any : (n : ℕ) (f : ℕ → Bool) (i : ℕ) → i < n → f i ≡ true → list_any f (range_with_len 0 n) ≡ true
some_any n f i l t =
    list_any-from_Any f (range_with_len 0 n)
    (i, i, omega (arith, length-range_with_len 0 n), omega (arith, get_or-range_with_len 0 n i i l), t)

-- the walk once round j, n times
times : ℕ → ℤ → ℤ
times zero z = pos 0
times (suc n) z = z +ℤ times n z

rounds : (links : List Link) (j : ℕ) (z : ℤ) → Walk links j j z → (n : ℕ) → Walk links j j (times n z)
unfolding times
rounds links j z r zero = record { along = []; leads = refl; long = refl }
rounds links j z r (suc n) = join links j j j z (times n z) r (rounds links j z r n)

times_below : (n : ℕ) (z : ℤ) → z <ℤ pos 0 → (times n z +ℤ pos n) ≤ℤ pos 0
unfolding times
times_below zero z h = omega (arith, ints)
times_below (suc n) z h = let r = times_below n z h in omega (arith, ints)

zero_to : (o p : Option ℤ) → zero_sum o p ≡ true → (x y : ℤ) × (o ≡ Some x) × (p ≡ Some y) × (x +ℤ y ≡ pos 0)
zero_to None p h = grind arith
zero_to (Some x) None h = grind arith
zero_to (Some x) (Some y) h =
    let low : (x +ℤ y) ≤ℤ pos 0 = grind (arith, ints) in
    let high : pos 0 ≤ℤ (x +ℤ y) = grind (arith, ints) in
    (x, y, refl, refl, omega (arith, ints))

zero_from : (o p : Option ℤ) (x y : ℤ) → o ≡ Some x → p ≡ Some y → x +ℤ y ≡ pos 0 → zero_sum o p ≡ true
zero_from None p x y e f s = let z : ◌≡◌ {A = ℕ} 0 1 = cc in absurd (omega arith)
zero_from (Some u) None x y e f s = let z : ◌≡◌ {A = ℕ} 0 1 = cc in absurd (omega arith)
zero_from (Some u) (Some v) x y e f s =
    let a : u ≡ x = cc in
    let b : v ≡ y = cc in
    let r : u +ℤ v ≡ pos 0 = omega (arith, ints) in
    rw r

module _ (k : ℕ) (links : List Link) (good : (l : Link) → ContainsAt links l → (l.right < k) × (l.left < k)) (d : ℕ → ℕ → Option ℤ) (w : Walks k links k d) where
  first_link : (i : ℕ) (l : Link) → ContainsAt links l → l.right ≡ i → is_some (d i l.left) ≡ true
  first_link i l a e = subst (λ (n : ℕ). is_some (d n l.left) ≡ true) e (most_some _ _ (w.single l a))

  ends : (i j : ℕ) (l : Link) (v : List Link) → IsWalk links i j (l ∷ v) → j < k
  ends i j l [] p = subst (λ (n : ℕ). n < k) p.2 (good l p.0).1
  ends i j l (l' ∷ v) p = ends l.left j l' v p.2

  -- a walk that is not empty has an entry
  walk_some : (i j : ℕ) → i < k → (l : Link) (v : List Link) → IsWalk links i j (l ∷ v) → is_some (d i j) ≡ true
  walk_some i j hi l [] p = subst (λ (n : ℕ). is_some (d i n) ≡ true) p.2 (first_link i l p.0 p.1)
  walk_some i j hi l (l' ∷ v) p =
      let h = good l p.0 in
      w.reach i l.left j hi h.1 (ends l.left j l' v p.2) h.1 (first_link i l p.0 p.1) (walk_some l.left j h.1 l' v p.2)

  -- in a convex set of columns with no ring below 0, the entry is no longer than any walk
  module _ (C : ℕ → Bool) (cv : Convex links k C) (nb : NoneBelow k C d) where
    pub walk_most : (i j : ℕ) → i < k → C i ≡ true → C j ≡ true → (l : Link) (v : List Link) → IsWalk links i j (l ∷ v) → AtMost (d i j) (walk_length (l ∷ v))
    walk_most i j hi ci cj l [] p =
        let here : AtMost (d i l.left) l.bound = subst (λ (n : ℕ). AtMost (d n l.left) l.bound) p.1 (w.single l p.0) in
        most_less (d i j) l.bound (walk_length (l ∷ [])) (omega (arith, ints)) (subst (λ (n : ℕ). AtMost (d i n) l.bound) p.2 here)
    walk_most i j hi ci cj l (l' ∷ v) p =
        let h = good l p.0 in
        let here : AtMost (d i l.left) l.bound = subst (λ (n : ℕ). AtMost (d n l.left) l.bound) p.1 (w.single l p.0) in
        let hj = ends l.left j l' v p.2 in
        let cm = cv.between i l.left j hi h.1 hj ci cj (l.bound +ℤ pos 0) (walk_length (l' ∷ v))
        (record { along = l ∷ []; leads = (p.0, p.1, refl); long = refl }) (record { along = l' ∷ v; leads = p.2; long = refl }) in
        let (a, e, le) = most_is (d i l.left) l.bound here in
        let (b, f, le') = most_is (d l.left j) (walk_length (l' ∷ v)) (walk_most l.left j h.1 cm cj l' v p.2) in
        most_less (d i j) (a +ℤ b) (walk_length (l ∷ (l' ∷ v))) (omega (arith, ints)) (w.short C cv nb i l.left j hi h.1 hj h.1 ci cm cj a b e f)

  reach_by : (c i j : ℕ) → c < k → i < k → (v : ℤ) → Walk links i j v → reaches d c i ≡ true → reaches d c j ≡ true
  reach_by c i j hc hi v r h = go r.along r.leads
    where
      go : (x : List Link) → IsWalk links i j x → reaches d c j ≡ true
      go [] p = subst (λ (n : ℕ). reaches d c n ≡ true) p h
      go (l ∷ x) p =
          ⊎_elim
          (λ e. or_right (eqb c j) (is_some (d c j)) (subst (λ (n : ℕ). is_some (d n j) ≡ true) (sym (eqb-true c i e)) (walk_some i j hi l x p)))
          (λ e. or_right (eqb c j) (is_some (d c j)) (w.reach c i j hc hi (ends i j l x p) hi e (walk_some i j hi l x p)))
          (or_cases (eqb c i) (is_some (d c i)) h)

  reach_to : (c i j : ℕ) → c < k → i < k → j < k → (v : ℤ) → Walk links i j v → reaches d j c ≡ true → reaches d i c ≡ true
  reach_to c i j hc hi hj v r h = go r.along r.leads
    where
      go : (x : List Link) → IsWalk links i j x → reaches d i c ≡ true
      go [] p = subst (λ (n : ℕ). reaches d n c ≡ true) (sym p) h
      go (l ∷ x) p =
          ⊎_elim
          (λ e. or_right (eqb i c) (is_some (d i c)) (subst (λ (n : ℕ). is_some (d i n) ≡ true) (eqb-true j c e) (walk_some i j hi l x p)))
          (λ e. or_right (eqb i c) (is_some (d i c)) (w.reach i j c hi hj hc hj (walk_some i j hi l x p) e))
          (or_cases (eqb j c) (is_some (d j c)) h)

  -- the columns that c reaches and that reach c
  abbrev with : ℕ → ℕ → Bool
  with c j = reaches d c j && reaches d j c

  with_convex : (c : ℕ) → c < k → Convex links k (with c)
  with_convex c hc = record {
    between = λ i m j hi hm hj ci cj v x r s.
        and_from (reaches d c m) (reaches d m c)
        (reach_by c i m hc hi v r (and_parts (reaches d c i) (reaches d i c) ci).0)
        (reach_to c m j hc hm hj x s (and_parts (reaches d c j) (reaches d j c) cj).1);
  }

  self : (c : ℕ) → with c c ≡ true
  self c = let e = eq-eqb c c refl in and_from _ _ (or_left (eqb c c) (is_some (d c c)) e) (or_left (eqb c c) (is_some (d c c)) e)

  below_test : (v : ℤ) (o : Option ℤ) → o ≡ Some v → (negative o ≡ true → ⊥) → pos 0 ≤ℤ v
  below_test v None e h = let z : ◌≡◌ {A = ℕ} 0 1 = cc in absurd (omega arith)
  below_test v (Some u) e h = let s : u ≡ v = cc in by_lt_z u (pos 0) (λ l. absurd (h (grind (arith, ints)))) (λ l. omega (arith, ints))

  test_below : (o : Option ℤ) → negative o ≡ true → (v : ℤ) × (o ≡ Some v) × (v <ℤ pos 0)
  test_below None h = grind arith
  test_below (Some v) h = (v, refl, grind (arith, ints))

  -- where no column of its kind shows a ring below 0, no such ring passes through c
  pub no_ring : (c : ℕ) → c < k → on_ring_below k d c ≡ false → RingBelow links c → ⊥
  no_ring c hc f r = go r.ring.along r.ring.leads r.ring.long
    where
      nb : NoneBelow k (with c) d
      nb i hi ci v e = below_test v (d i i) e (λ n. both_ways _ f (some_any k (ring_by d c) i hi (and_from (with c i) (negative (d i i)) ci n)))

      go : (x : List Link) → IsWalk links c c x → walk_length x ≡ r.length → ⊥
      go [] p e = let b = r.below in omega (arith, ints)
      go (l ∷ x) p e =
          let (v, q, le) = most_is (d c c) (walk_length (l ∷ x)) (walk_most (with c) (with_convex c hc) nb c c hc (self c) (self c) l x p) in
          let z = nb c hc (self c) v q in
          let b = r.below in
          omega (arith, ints)

  -- the walk that an entry shows, or the empty one
  reached : (i j : ℕ) → i < k → j < k → reaches d i j ≡ true → (v : ℤ) × Walk links i j v
  reached i j hi hj h =
      ⊎_elim
      (λ e. (pos 0, record { along = []; leads = eqb-true i j e; long = refl }))
      (λ e. let (v, q) = some_is (d i j) e in (v, w.sound i j hi hj v q))
      (or_cases (eqb i j) (is_some (d i j)) h)

  -- and where one does, round it often enough, there and back, is a ring below 0 through c
  pub ring : (c : ℕ) → c < k → on_ring_below k d c ≡ true → RingBelow links c
  ring c hc h =
      let (j, hj, t) = any_some k (ring_by d c) h in
      let both = and_parts (with c j) (negative (d j j)) t in
      let way = and_parts (reaches d c j) (reaches d j c) both.0 in
      let (a, there) = reached c j hc hj way.0 in
      let (b, back) = reached j c hj hc way.1 in
      let (z, q, lt) = test_below (d j j) both.1 in
      let n = suc (nat_abs (a +ℤ b)) in
      let round = rounds links j z (w.sound j j hj hj z q) n in
      let less = times_below n z lt in
      record {
        length = (a +ℤ times n z) +ℤ b;
        ring = join links c j c (a +ℤ times n z) b (join links c j j a (times n z) there round) back;
        below = omega (arith, ints);
      }

  -- with no ring below 0 at all
  module _ (free : (i : ℕ) → i < k → on_ring_below k d i ≡ false) where
    abbrev any : ℕ → Bool
    any i = true

    any_convex : Convex links k any
    any_convex = record { between = λ i m j hi hm hj ci cj v x r s. refl }

    none_below : NoneBelow k any d
    none_below i hi ci v e =
        by_lt_z v (pos 0) (λ l. absurd (no_ring i hi (free i hi) (record { length = v; ring = w.sound i i hi hi v e; below = l }))) (λ l. l)

    short_way : (p q : ℕ) → p < k → (p ≡ q → ⊥) → (v : ℤ) → Walk links p q v → AtMost (d p q) v
    short_way p q hp ne v r = go r.along r.leads r.long
      where
        go : (x : List Link) → IsWalk links p q x → walk_length x ≡ v → AtMost (d p q) v
        go [] h e = absurd (ne h)
        go (l ∷ x) h e = subst (λ (z : ℤ). AtMost (d p q) z) e (walk_most any any_convex none_below p q hp refl refl l x h)

    -- tied columns show it
    pub tie_shown : (p q : ℕ) → p < k → q < k → (p ≡ q → ⊥) → Tied links p q → shows_tie d p q ≡ true
    tie_shown p q hp hq ne t =
        let (a, e, le) = most_is (d p q) t.there (short_way p q hp ne t.there t.to) in
        let (b, f, le') = most_is (d q p) t.back (short_way q p hq (λ s. ne (sym s)) t.back t.fro) in
        let (u, g, up) = most_is (d p p) (a +ℤ b) (w.short any any_convex none_below p q p hp hq hp hq refl refl refl a b e f) in
        let z = none_below p hp refl u g in
        let s = t.zero in
        and_from (not (eqb p q)) (zero_sum (d p q) (d q p)) (not_from_false (eqb p q) (ne_eqb p q ne)) (zero_from (d p q) (d q p) a b e f (omega (arith, ints)))

  -- and columns that show it are tied
  pub shown_tie : (p q : ℕ) → p < k → q < k → shows_tie d p q ≡ true → (p ≡ q → ⊥) × Tied links p q
  shown_tie p q hp hq h =
      let both = and_parts (not (eqb p q)) (zero_sum (d p q) (d q p)) h in
      let (a, b, e, f, s) = zero_to (d p q) (d q p) both.1 in
      (eqb-false p q (not-true (eqb p q) both.0), record { there = a; back = b; to = w.sound p q hp hq a e; fro = w.sound q p hq hp b f; zero = s })
