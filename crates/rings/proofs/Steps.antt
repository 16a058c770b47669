-- One step of the closing of a table of walks.
use Rattle.std.proofs.Common.{◌≡◌, ℕ, ◌+◌, ◌<◌, Bool, true, ◌⊎◌, List, [], ◌∷◌, ◌++◌, ℤ, ◌+ℤ◌, ◌≤ℤ◌, is_some, Some, None, Option, sym, refl, ap, ◌∙◌, subst, inl, inr, ⊎_elim, arith}
use Rattle.std.specs.Int.{int_min}
use Rattle.std.proofs.lemmas.Int.{ints, clamps, by_lt_z}
use Rattle.std.proofs.lemmas.Bool.{cases_eq}
use Rattle.std.specs.List.{ContainsAt}
use Rattle.differences.specs.declared.link.Link.{Link}
use Rattle.rings.specs.Rings.{IsWalk, walk_length, Walk}
use Rattle.rings.specs.Tables.{AtMost, joined, shorter, Stepped, Convex, NoneBelow, Walks}

pub walks_append : (links : List Link) (i m j : ℕ) (v w : List Link) → IsWalk links i m v → IsWalk links m j w → IsWalk links i j (v ++ w)
walks_append links i m j [] w p q = subst (λ (n : ℕ). IsWalk links n j w) (sym p) q
walks_append links i m j (l ∷ v) w p q = (p.0, p.1, walks_append links l.left m j v w p.2 q)

pub length-append : (v w : List Link) → walk_length (v ++ w) ≡ walk_length v +ℤ walk_length w
length-append [] w = omega (arith, ints)
length-append (l ∷ v) w = let r = length-append v w in omega (arith, ints)

pub join : (links : List Link) (i m j : ℕ) (v w : ℤ) → Walk links i m v → Walk links m j w → Walk links i j (v +ℤ w)
join links i m j v w p q =
    record {
      along = p.along ++ q.along;
      leads = walks_append links i m j p.along q.along p.leads q.leads;
      long = let r = length-append p.along q.along in let a = p.long in let b = q.long in omega (arith, ints);
    }

clash : {P : Type 0} (v : ℤ) → ◌≡◌ {A = Option ℤ} None (Some v) → P
clash v e = let z : ◌≡◌ {A = ℕ} 0 1 = cc in absurd (omega arith)

min_either : (a b : ℤ) → (int_min a b ≡ a) ⊎ (int_min a b ≡ b)
min_either a b = by_lt_z b a (λ l. inr (grind (arith, ints, clamps))) (λ l. inl (grind (arith, ints, clamps)))

pub some_is : (o : Option ℤ) → is_some o ≡ true → (v : ℤ) × (o ≡ Some v)
some_is None h = grind arith
some_is (Some v) h = (v, refl)

pub is_some_from : (o : Option ℤ) (v : ℤ) → o ≡ Some v → is_some o ≡ true
is_some_from o v e = ap is_some e

pub most_is : (o : Option ℤ) (z : ℤ) → AtMost o z → (v : ℤ) × (o ≡ Some v) × (v ≤ℤ z)
most_is None z h = absurd h
most_is (Some v) z h = (v, refl, h)

pub is_most : (o : Option ℤ) (v z : ℤ) → o ≡ Some v → v ≤ℤ z → AtMost o z
is_most o v z e h = subst (λ (p : Option ℤ). AtMost p z) (sym e) h

pub most_some : (o : Option ℤ) (z : ℤ) → AtMost o z → is_some o ≡ true
most_some None z h = absurd h
most_some (Some v) z h = refl

pub most_less : (o : Option ℤ) (y z : ℤ) → y ≤ℤ z → AtMost o y → AtMost o z
most_less None y z h l = l
most_less (Some v) y z h l = omega (arith, ints)

-- where an entry comes from
pub came : (o a b : Option ℤ) (v : ℤ) → shorter o (joined a b) ≡ Some v → (o ≡ Some v) ⊎ ((x y : ℤ) × (a ≡ Some x) × (b ≡ Some y) × (v ≡ x +ℤ y))
came None None b v e = clash v e
came None (Some x) None v e = clash v e
came None (Some x) (Some y) v e = inr (x, y, refl, refl, cc)
came (Some u) None b v e = inl e
came (Some u) (Some x) None v e = inl e
came (Some u) (Some x) (Some y) v e =
    let s : int_min u (x +ℤ y) ≡ v = cc in
    ⊎_elim (λ m. inl (ap Some (sym m ∙ s))) (λ m. inr (x, y, refl, refl, sym s ∙ m)) (min_either u (x +ℤ y))

pub stays : (o p : Option ℤ) (v : ℤ) → o ≡ Some v → AtMost (shorter o p) v
stays None p v e = clash v e
stays (Some u) None v e = let s : u ≡ v = cc in omega (arith, ints)
stays (Some u) (Some w) v e = let s : u ≡ v = cc in omega (arith, ints, clamps)

pub most_stays : (o p : Option ℤ) (z : ℤ) → AtMost o z → AtMost (shorter o p) z
most_stays None p z h = absurd h
most_stays (Some u) None z h = h
most_stays (Some u) (Some w) z h = omega (arith, ints, clamps)

pub goes : (o a b : Option ℤ) (x y : ℤ) → a ≡ Some x → b ≡ Some y → AtMost (shorter o (joined a b)) (x +ℤ y)
goes o None b x y e f = clash x e
goes o (Some u) None x y e f = clash y f
goes None (Some u) (Some w) x y e f = let s : u ≡ x = cc in let t : w ≡ y = cc in omega (arith, ints)
goes (Some z) (Some u) (Some w) x y e f = let s : u ≡ x = cc in let t : w ≡ y = cc in omega (arith, ints, clamps)

module _ (k : ℕ) (links : List Link) (m : ℕ) (hm : m < k) (d e : ℕ → ℕ → Option ℤ) (st : Stepped k m d e) (w : Walks k links m d) where
  -- an entry of e is one of d, or two of them by way of m
  from : (i j : ℕ) → i < k → j < k → (v : ℤ) → e i j ≡ Some v → (d i j ≡ Some v) ⊎ ((x y : ℤ) × (d i m ≡ Some x) × (d m j ≡ Some y) × (v ≡ x +ℤ y))
  from i j hi hj v h = came (d i j) (d i m) (d m j) v (sym (st.is i j hi hj) ∙ h)

  kept : (i j : ℕ) → i < k → j < k → (v : ℤ) → d i j ≡ Some v → AtMost (e i j) v
  kept i j hi hj v h = subst (λ (o : Option ℤ). AtMost o v) (sym (st.is i j hi hj)) (stays (d i j) (joined (d i m) (d m j)) v h)

  by_m : (i j : ℕ) → i < k → j < k → (x y : ℤ) → d i m ≡ Some x → d m j ≡ Some y → AtMost (e i j) (x +ℤ y)
  by_m i j hi hj x y h g = subst (λ (o : Option ℤ). AtMost o (x +ℤ y)) (sym (st.is i j hi hj)) (goes (d i j) (d i m) (d m j) x y h g)

  sound : (i j : ℕ) → i < k → j < k → (v : ℤ) → e i j ≡ Some v → Walk links i j v
  sound i j hi hj v h =
      ⊎_elim (w.sound i j hi hj v)
      (λ (x, y, p, q, s). subst (λ (z : ℤ). Walk links i j z) (sym s) (join links i m j x y (w.sound i m hi hm x p) (w.sound m j hm hj y q)))
      (from i j hi hj v h)

  -- an entry of row or column m was there before
  was_to_m : (i : ℕ) → i < k → (v : ℤ) → e i m ≡ Some v → (x : ℤ) × (d i m ≡ Some x)
  was_to_m i hi v h = ⊎_elim (λ p. (v, p)) (λ (x, y, p, q, s). (x, p)) (from i m hi hm v h)

  was_from_m : (j : ℕ) → j < k → (v : ℤ) → e m j ≡ Some v → (x : ℤ) × (d m j ≡ Some x)
  was_from_m j hj v h = ⊎_elim (λ p. (v, p)) (λ (x, y, p, q, s). (y, q)) (from m j hm hj v h)

  some_by_m : (i j : ℕ) → i < k → j < k → (x y : ℤ) → d i m ≡ Some x → d m j ≡ Some y → is_some (e i j) ≡ true
  some_by_m i j hi hj x y p q = most_some (e i j) (x +ℤ y) (by_m i j hi hj x y p q)

  some_kept : (i j : ℕ) → i < k → j < k → is_some (d i j) ≡ true → is_some (e i j) ≡ true
  some_kept i j hi hj h = let (v, p) = some_is (d i j) h in most_some (e i j) v (kept i j hi hj v p)

  reach_below : (i n j : ℕ) → i < k → n < k → j < k → n < m → (a b : ℤ) → e i n ≡ Some a → e n j ≡ Some b → is_some (e i j) ≡ true
  reach_below i n j hi hn hj l a b p q =
      ⊎_elim
      (λ ain. ⊎_elim
      (λ bin. some_kept i j hi hj (w.reach i n j hi hn hj l (is_some_from _ _ ain) (is_some_from _ _ bin)))
      (λ (x, y, f, g, s).
      let (u, h) = some_is (d i m) (w.reach i n m hi hn hm l (is_some_from _ _ ain) (is_some_from _ _ f)) in
      some_by_m i j hi hj u y h g)
      (from n j hn hj b q))
      (λ (x, y, f, g, s). ⊎_elim
      (λ bin.
      let (u, h) = some_is (d m j) (w.reach m n j hm hn hj l (is_some_from _ _ g) (is_some_from _ _ bin)) in
      some_by_m i j hi hj x u f h)
      (λ (x', y', f', g', s'). some_by_m i j hi hj x y' f g')
      (from n j hn hj b q))
      (from i n hi hn a p)

  reach : (i n j : ℕ) → i < k → n < k → j < k → n < m + 1 → is_some (e i n) ≡ true → is_some (e n j) ≡ true → is_some (e i j) ≡ true
  reach i n j hi hn hj l p q =
      let (a, f) = some_is (e i n) p in
      let (b, g) = some_is (e n j) q in
      ⊎_elim
      (λ s.
      let (x, h) = was_to_m i hi a (subst (λ (c : ℕ). e i c ≡ Some a) s f) in
      let (y, h') = was_from_m j hj b (subst (λ (c : ℕ). e c j ≡ Some b) s g) in
      some_by_m i j hi hj x y h h')
      (λ ne. reach_below i n j hi hn hj (omega arith) a b f g)
      (cases_eq n m)

  -- the sections of C: in C, no ring of d is below 0, since none of e is
  module _ (C : ℕ → Bool) (cv : Convex links k C) (nb : NoneBelow k C e) where
    below : NoneBelow k C d
    below i hi ci v h =
        let (u, p, l) = most_is (e i i) v (kept i i hi hi v h) in
        let r = nb i hi ci u p in
        omega (arith, ints)

    old : (i n j : ℕ) → i < k → n < k → j < k → n < m → C i ≡ true → C n ≡ true → C j ≡ true → (a b : ℤ) → d i n ≡ Some a → d n j ≡ Some b → AtMost (d i j) (a +ℤ b)
    old = w.short C cv below

    on_way : (i j : ℕ) → i < k → j < k → C i ≡ true → C j ≡ true → (x y : ℤ) → d i m ≡ Some x → d m j ≡ Some y → C m ≡ true
    on_way i j hi hj ci cj x y p q = cv.between i m j hi hm hj ci cj x y (w.sound i m hi hm x p) (w.sound m j hm hj y q)

    -- an entry to or from m is no smaller than the one that was there
    to_m : (i : ℕ) → i < k → C m ≡ true → (v : ℤ) → e i m ≡ Some v → (x : ℤ) × (d i m ≡ Some x) × (x ≤ℤ v)
    to_m i hi cm v h =
        ⊎_elim (λ p. (v, p, omega (arith, ints)))
        (λ (x, y, p, q, s). let z = below m hm cm y q in (x, p, omega (arith, ints)))
        (from i m hi hm v h)

    from_m : (j : ℕ) → j < k → C m ≡ true → (v : ℤ) → e m j ≡ Some v → (x : ℤ) × (d m j ≡ Some x) × (x ≤ℤ v)
    from_m j hj cm v h =
        ⊎_elim (λ p. (v, p, omega (arith, ints)))
        (λ (x, y, p, q, s). let z = below m hm cm x p in (y, q, omega (arith, ints)))
        (from m j hm hj v h)

    short_below : (i n j : ℕ) → i < k → n < k → j < k → n < m → C i ≡ true → C n ≡ true → C j ≡ true → (a b : ℤ) → e i n ≡ Some a → e n j ≡ Some b → AtMost (e i j) (a +ℤ b)
    short_below i n j hi hn hj l ci cn cj a b p q =
        ⊎_elim
        (λ ain. ⊎_elim
        (λ bin.
        let (u, h, le) = most_is (d i j) (a +ℤ b) (old i n j hi hn hj l ci cn cj a b ain bin) in
        most_less (e i j) u (a +ℤ b) le (kept i j hi hj u h))
        (λ (x, y, f, g, s).
        let cm = on_way n j hn hj cn cj x y f g in
        let (u, h, le) = most_is (d i m) (a +ℤ x) (old i n m hi hn hm l ci cn cm a x ain f) in
        most_less (e i j) (u +ℤ y) (a +ℤ b) (omega (arith, ints)) (by_m i j hi hj u y h g))
        (from n j hn hj b q))
        (λ (x, y, f, g, s).
        let cm = on_way i n hi hn ci cn x y f g in
        ⊎_elim
        (λ bin.
        let (u, h, le) = most_is (d m j) (y +ℤ b) (old m n j hm hn hj l cm cn cj y b g bin) in
        most_less (e i j) (x +ℤ u) (a +ℤ b) (omega (arith, ints)) (by_m i j hi hj x u f h))
        (λ (x', y', f', g', s').
        let (u, h, le) = most_is (d m m) (y +ℤ x') (old m n m hm hn hm l cm cn cm y x' g f') in
        let z = below m hm cm u h in
        most_less (e i j) (x +ℤ y') (a +ℤ b) (omega (arith, ints)) (by_m i j hi hj x y' f g'))
        (from n j hn hj b q))
        (from i n hi hn a p)

    short : (i n j : ℕ) → i < k → n < k → j < k → n < m + 1 → C i ≡ true → C n ≡ true → C j ≡ true → (a b : ℤ) → e i n ≡ Some a → e n j ≡ Some b → AtMost (e i j) (a +ℤ b)
    short i n j hi hn hj l ci cn cj a b p q =
        ⊎_elim
        (λ s.
        let cm : C m ≡ true = subst (λ (c : ℕ). C c ≡ true) s cn in
        let (x, f, le) = to_m i hi cm a (subst (λ (c : ℕ). e i c ≡ Some a) s p) in
        let (y, g, le') = from_m j hj cm b (subst (λ (c : ℕ). e c j ≡ Some b) s q) in
        most_less (e i j) (x +ℤ y) (a +ℤ b) (omega (arith, ints)) (by_m i j hi hj x y f g))
        (λ ne. short_below i n j hi hn hj (omega arith) ci cn cj a b p q)
        (cases_eq n m)

  -- the ways by one more column are entered
  pub walks_step : ((l : Link) → ContainsAt links l → (l.right < k) × (l.left < k)) → Walks k links (m + 1) e
  walks_step good =
      record {
        sound = sound;
        single = λ l a.
            let h = good l a in
            let (v, p, le) = most_is (d l.right l.left) l.bound (w.single l a) in
            most_less (e l.right l.left) v l.bound le (kept l.right l.left h.0 h.1 v p);
        reach = reach;
        short = short;
      }
