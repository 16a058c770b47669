-- Links with no ring below 0 have a shortest walk between each two columns that a walk joins.
use Rattle.std.proofs.Common.{◌≡◌, ℕ, zero, suc, ◌<◌, ◌≤◌, Bool, true, false, cond, ◌&&◌, eqb, ◌⊎◌, List, [], ◌∷◌, ℤ, pos, ◌+ℤ◌, ◌≤ℤ◌, Some, None, Option, sym, refl, ap, ◌∙◌, subst, inl, inr, ⊎_elim, add-one, arith}
use Rattle.std.specs.List.{ContainsAt}
use Rattle.std.proofs.lemmas.Int.{ints, clamps, by_lt_z}
use Rattle.std.proofs.lemmas.Bool.{cases_eq, eqb-true, eq-eqb, ne_eqb, and_parts, cond-true, cond-false}
use Rattle.differences.specs.declared.link.Link.{Link}
use Rattle.rings.specs.Rings.{IsWalk, walk_length, Walk, RingPlace, Tied}
use Rattle.rings.specs.Tables.{AtMost, joined, shorter, Convex, NoneBelow, Walks}
use Rattle.rings.proofs.Steps.{walks_step, came, most_stays, most_is, is_most}

-- the ways w between k columns: none is shortened by going through another column
pub record Ways (k : ℕ) (w : ℕ → ℕ → Option ℤ) : Type 0 where
  pub zeros : (i : ℕ) → i < k → w i i ≡ Some (pos 0)
  pub short : (i m j : ℕ) → i < k → m < k → j < k → (a b : ℤ) → w i m ≡ Some a → w m j ≡ Some b → AtMost (w i j) (a +ℤ b)

-- the values x keep the ways
pub record OnWays (k : ℕ) (w : ℕ → ℕ → Option ℤ) (x : ℕ → ℤ) : Type 0 where
  pub way : (i j : ℕ) → i < k → j < k → (v : ℤ) → w i j ≡ Some v → x j ≤ℤ (x i +ℤ v)

-- the values x keep the link
abbrev pub Links : List Link → (ℕ → ℤ) → Type 0
Links links x = (l : Link) → ContainsAt links l → x l.left ≤ℤ (x l.right +ℤ l.bound)

-- the ways of the links
pub record WaysOf (k : ℕ) (links : List Link) (w : ℕ → ℕ → Option ℤ) : Type 0 where
  pub ways : Ways k w
  pub on : (x : ℕ → ℤ) → Links links x → OnWays k w x
  pub back : (x : ℕ → ℤ) → OnWays k w x → Links links x
  pub tied : (p q : ℕ) → p < k → q < k → (p ≡ q → ⊥) → (a b : ℤ) → w p q ≡ Some a → w q p ≡ Some b → a +ℤ b ≡ pos 0 → Tied links p q

abbrev one : Link → ℕ → ℕ → Option ℤ
one l i j = cond (eqb l.right i && eqb l.left j) (Some l.bound) None

-- the shortest link from i to j
start : List Link → ℕ → ℕ → Option ℤ
start [] i j = None
start (l ∷ ls) i j = shorter (start ls i j) (one l i j)

-- the ways by the first m columns entered
closing : ℕ → (ℕ → ℕ → Option ℤ) → ℕ → ℕ → Option ℤ
closing zero d i j = d i j
closing (suc m) d i j = shorter (closing m d i j) (joined (closing m d i m) (closing m d m j))

one_is : (l : Link) (i j : ℕ) (v : ℤ) → one l i j ≡ Some v → (l.right ≡ i) × (l.left ≡ j) × (l.bound ≡ v)
one_is l i j v e = go (eqb l.right i && eqb l.left j) refl e
  where
    go : (b : Bool) → (eqb l.right i && eqb l.left j) ≡ b → cond b (Some l.bound) None ≡ Some v → (l.right ≡ i) × (l.left ≡ j) × (l.bound ≡ v)
    go true h f = let p = and_parts (eqb l.right i) (eqb l.left j) h in (eqb-true _ _ p.0, eqb-true _ _ p.1, cc)
    go false h f = let z : ◌≡◌ {A = ℕ} 0 1 = cc in absurd (omega arith)

either : (o p : Option ℤ) (v : ℤ) → shorter o p ≡ Some v → (o ≡ Some v) ⊎ (p ≡ Some v)
either None p v e = inr e
either (Some x) None v e = inl e
either (Some x) (Some y) v e =
    ⊎_elim inl (λ (a, b, f, g, s). inr (let h : y ≡ v = (let c : y ≡ a = cc in let d : pos 0 ≡ b = cc in omega (arith, ints)) in ap Some h))
    (came (Some x) (Some y) (Some (pos 0)) v (ap (λ z. shorter (Some x) (Some z)) (omega (arith, ints)) ∙ e))

start_sound : (links ls : List Link) → ((l : Link) → ContainsAt ls l → ContainsAt links l) → (i j : ℕ) (v : ℤ) → start ls i j ≡ Some v → Walk links i j v
unfolding start
start_sound links [] sub i j v e = let z : ◌≡◌ {A = ℕ} 0 1 = cc in absurd (omega arith)
start_sound links (l ∷ ls) sub i j v e =
    ⊎_elim
    (start_sound links ls (λ m (n, h, f). sub m (suc n, omega arith, f)) i j v)
    (λ h. let p = one_is l i j v h in let b = p.2 in record { along = l ∷ []; leads = (sub l (0, omega arith, λ d. refl), p.0, p.1); long = omega (arith, ints) })
    (either (start ls i j) (one l i j) v e)

most_either : (o p : Option ℤ) (z : ℤ) → AtMost p z → AtMost (shorter o p) z
most_either o None z h = absurd h
most_either None (Some y) z h = h
most_either (Some x) (Some y) z h = omega (arith, ints, clamps)

one_most : (l : Link) → AtMost (one l l.right l.left) l.bound
one_most l = rw (eq-eqb l.right l.right refl, eq-eqb l.left l.left refl) (omega (arith, ints))

start_single : (ls : List Link) (l : Link) → ContainsAt ls l → AtMost (start ls l.right l.left) l.bound
unfolding start
start_single [] l (n, h, f) = absurd (omega arith)
start_single (m ∷ ls) l (zero, h, f) =
    let e : m ≡ l = f l in
    most_either _ _ _ (subst (λ (c : Link). AtMost (one c l.right l.left) l.bound) (sym e) (one_most l))
start_single (m ∷ ls) l (suc n, h, f) = most_stays _ _ _ (start_single ls l (n, omega arith, f))

start_walks : (k : ℕ) (links : List Link) → Walks k links 0 (start links)
start_walks k links =
    record {
      sound = λ i j hi hj v e. start_sound links links (λ l h. h) i j v e;
      single = start_single links;
      reach = λ i m j hi hm hj lt p q. absurd (omega arith);
      short = λ C cv nb i m j hi hm hj lt ci cm cj a b p q. absurd (omega arith);
    }

module _ (k : ℕ) (links : List Link) (good : (l : Link) → ContainsAt links l → (l.right < k) × (l.left < k)) where
  closing_walks : (m : ℕ) → m ≤ k → Walks k links m (closing m (start links))
  unfolding closing
  closing_walks zero h = start_walks k links
  closing_walks (suc m) h =
      subst (λ (n : ℕ). Walks k links n (closing (suc m) (start links))) (add-one m)
      (walks_step k links m (omega arith) (closing m (start links)) (closing (suc m) (start links)) (record { is = λ i j hi hj. refl }) (closing_walks m (omega arith)) good)

  table : ℕ → ℕ → Option ℤ
  table = closing k (start links)

  told : Walks k links k table
  unfolding table
  told = closing_walks k (omega arith)

  way : ℕ → ℕ → Option ℤ
  way i j = cond (eqb i j) (Some (pos 0)) (table i j)

  way_same : (i : ℕ) → way i i ≡ Some (pos 0)
  unfolding way
  way_same i = cond-true (eqb i i) _ _ (eq-eqb i i refl)

  way_other : (i j : ℕ) → (i ≡ j → ⊥) → way i j ≡ table i j
  unfolding way
  way_other i j ne = cond-false (eqb i j) _ _ (ne_eqb i j ne)

  -- with no ring below 0 at any column
  module _ (none : RingPlace k links None) where
    any_convex : Convex links k (λ _. true)
    any_convex = record { between = λ i m j hi hm hj ci cj v x r s. refl }

    none_below : NoneBelow k (λ _. true) table
    none_below i hi ci v e =
        by_lt_z v (pos 0) (λ l. absurd (none i hi (record { length = v; ring = told.sound i i hi hi v e; below = l }))) (λ l. l)

    table_short : (i m j : ℕ) → i < k → m < k → j < k → (a b : ℤ) → table i m ≡ Some a → table m j ≡ Some b → AtMost (table i j) (a +ℤ b)
    table_short i m j hi hm hj a b e f = told.short (λ _. true) any_convex none_below i m j hi hm hj hm refl refl refl a b e f

    -- through another column than both ends
    way_through : (i m j : ℕ) → i < k → m < k → j < k → (i ≡ m → ⊥) → (m ≡ j → ⊥) → (a b : ℤ) → way i m ≡ Some a → way m j ≡ Some b → AtMost (way i j) (a +ℤ b)
    way_through i m j hi hm hj ni nj a b e f =
        let h = table_short i m j hi hm hj a b (sym (way_other i m ni) ∙ e) (sym (way_other m j nj) ∙ f) in
        ⊎_elim
        (λ s.
        let (v, p, le) = most_is (table i j) (a +ℤ b) h in
        let low = none_below i hi refl v (ap (table i) s ∙ p) in
        subst (λ (n : ℕ). AtMost (way i n) (a +ℤ b)) s (is_most (way i i) (pos 0) (a +ℤ b) (way_same i) (omega (arith, ints))))
        (λ ne. subst (λ (o : Option ℤ). AtMost o (a +ℤ b)) (sym (way_other i j ne)) h)
        (cases_eq i j)

    zero_way : (i j : ℕ) (v : ℤ) → i ≡ j → way i j ≡ Some v → v ≡ pos 0
    zero_way i j v s e = let h = sym (ap (way i) s) ∙ way_same i in cc

    way_short : (i m j : ℕ) → i < k → m < k → j < k → (a b : ℤ) → way i m ≡ Some a → way m j ≡ Some b → AtMost (way i j) (a +ℤ b)
    way_short i m j hi hm hj a b e f =
        ⊎_elim
        (λ s. let z = zero_way i m a s e in is_most (way i j) b (a +ℤ b) (ap (λ (n : ℕ). way n j) s ∙ f) (omega (arith, ints)))
        (λ ni. ⊎_elim
        (λ s. let z = zero_way m j b s f in is_most (way i j) a (a +ℤ b) (ap (way i) (sym s) ∙ e) (omega (arith, ints)))
        (λ nj. way_through i m j hi hm hj ni nj a b e f)
        (cases_eq m j))
        (cases_eq i m)

  -- a plan that keeps the links differs along a walk by no more than its length
  along_walk : (x : ℕ → ℤ) → Links links x → (i j : ℕ) (v : List Link) → IsWalk links i j v → x j ≤ℤ (x i +ℤ walk_length v)
  along_walk x h i j [] p = let e = ap x p in omega (arith, ints)
  along_walk x h i j (l ∷ v) p =
      let r = along_walk x h l.left j v p.2 in
      let s = h l p.0 in
      let e = ap x p.1 in
      omega (arith, ints)

  way_walk : (i j : ℕ) → i < k → j < k → (v : ℤ) → way i j ≡ Some v → Walk links i j v
  way_walk i j hi hj v e =
      ⊎_elim
      (λ s. record { along = []; leads = s; long = let h = sym (ap (way i) s) ∙ way_same i in cc })
      (λ ne. told.sound i j hi hj v (sym (way_other i j ne) ∙ e))
      (cases_eq i j)

  single_way : (l : Link) → ContainsAt links l → (l.right ≡ l.left → ⊥) → AtMost (way l.right l.left) l.bound
  single_way l h ne = subst (λ (o : Option ℤ). AtMost o l.bound) (sym (way_other l.right l.left ne)) (told.single l h)

  ways_of : RingPlace k links None → ((l : Link) → ContainsAt links l → l.right ≡ l.left → ⊥) → WaysOf k links way
  ways_of none two =
      record {
        ways = record { zeros = λ i hi. way_same i; short = way_short none };
        on = λ x h. record { way = λ i j hi hj v e. let r = way_walk i j hi hj v e in let s = along_walk x h i j r.along r.leads in let t = r.long in omega (arith, ints) };
        back = λ x o l h.
            let g = good l h in
            let (v, e, le) = most_is (way l.right l.left) l.bound (single_way l h (two l h)) in
            let r = o.way l.right l.left g.0 g.1 v e in
            omega (arith, ints);
        tied = λ p q hp hq ne a b e f s. record { there = a; back = b; to = way_walk p q hp hq a e; fro = way_walk q p hq hp b f; zero = s };
      }

  -- such ways, whatever they are
  pub some_ways : RingPlace k links None → ((l : Link) → ContainsAt links l → l.right ≡ l.left → ⊥) → (w : ℕ → ℕ → Option ℤ) × WaysOf k links w
  some_ways none two = (way, ways_of none two)
