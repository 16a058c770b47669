-- Distances by an order of columns are closed, and a total over them is met as its rule wants.
use Rattle.std.proofs.Common.{◌≡◌, ℕ, ◌<◌, Bool, true, false, cond, List, ℤ, pos, ◌+ℤ◌, ◌≤ℤ◌, Some, None, Option, sym, ap, ◌∙◌, subst, ⊎_elim, arith}
use Rattle.std.proofs.lemmas.Int.{ints}
use Rattle.std.proofs.lemmas.Bool.{cases_Bool, cases_eq, cond-true, cond-false}
use Rattle.rules.specs.Plans.{value_at}
use Rattle.differences.specs.Tables.{Near, Obeys, Closed}
use Rattle.rings.proofs.Steps.{is_most}
use Rattle.rings.proofs.Ways.{Ways, OnWays}
use Rattle.totals.specs.Orders.{order_distance, Preorder, InOrder, Totals, Follows}
use Rattle.totals.proofs.Supporting.{Valued, Meets}

-- the ways of an order: 0 where it binds the two columns, else none
abbrev pub order_way : (ℕ → ℕ → Bool) → ℕ → ℕ → Option ℤ
order_way R i j = cond (R i j) (Some (pos 0)) None

module _ (R : ℕ → ℕ → Bool) where
  bound : (i j : ℕ) → R i j ≡ true → order_distance R i j ≡ pos 0
  bound i j h = cond-true (R i j) (pos 0) (pos 60000000) h

  free : (i j : ℕ) → R i j ≡ false → order_distance R i j ≡ pos 60000000
  free i j h = cond-false (R i j) (pos 0) (pos 60000000) h

  way_bound : (i j : ℕ) → R i j ≡ true → order_way R i j ≡ Some (pos 0)
  way_bound i j h = cond-true (R i j) (Some (pos 0)) None h

  way_is : (i j : ℕ) (v : ℤ) → order_way R i j ≡ Some v → (R i j ≡ true) × (v ≡ pos 0)
  way_is i j v e =
      ⊎_elim
      (λ h. let g = way_bound i j h in (h, cc))
      (λ h. let g : order_way R i j ≡ None = cond-false (R i j) (Some (pos 0)) None h in let z : ◌≡◌ {A = ℕ} 0 1 = cc in absurd (omega arith))
      (cases_Bool (R i j))

  distance_near : (i j : ℕ) → Near (order_distance R i j)
  distance_near i j =
      ⊎_elim
      (λ h. let e = bound i j h in (omega (arith, ints), omega (arith, ints)))
      (λ h. let e = free i j h in (omega (arith, ints), omega (arith, ints)))
      (cases_Bool (R i j))

  distance_positive : (i j : ℕ) → pos 0 ≤ℤ order_distance R i j
  distance_positive i j =
      ⊎_elim (λ h. let e = bound i j h in omega (arith, ints)) (λ h. let e = free i j h in omega (arith, ints)) (cases_Bool (R i j))

  module _ (p : Preorder R) where
    distance_short : (i m j : ℕ) → order_distance R i j ≤ℤ (order_distance R i m +ℤ order_distance R m j)
    distance_short i m j =
        let a = distance_positive i m in
        let b = distance_positive m j in
        let (low, high) = distance_near i j in
        ⊎_elim
        (λ h. ⊎_elim
        (λ g. let e = bound i j (p.through i m j h g) in omega (arith, ints))
        (λ g. let e = free m j g in omega (arith, ints))
        (cases_Bool (R m j)))
        (λ h. let e = free i m h in omega (arith, ints))
        (cases_Bool (R i m))

    pub order_closed : (k : ℕ) → Closed k (order_distance R)
    order_closed k =
        record {
          near = λ i j hi hj. distance_near i j;
          zeros = λ i hi. bound i i (p.self i);
          short = λ i m j hi hm hj. distance_short i m j;
        }

    pub order_ways : (k : ℕ) → Ways k (order_way R)
    order_ways k =
        record {
          zeros = λ i hi. way_bound i i (p.self i);
          short = λ i m j hi hm hj a b e f.
              let (h, za) = way_is i m a e in
              let (g, zb) = way_is m j b f in
              is_most (order_way R i j) (pos 0) (a +ℤ b) (way_bound i j (p.through i m j h g)) (omega (arith, ints));
        }

  -- to obey the distances, to keep the ways and to be in order is one
  obeys_in_order : (k : ℕ) (x : ℕ → ℤ) → Obeys k (order_distance R) x → InOrder k R x
  obeys_in_order k x o = record { below = λ i j hi hj h. let e = bound i j h in let l = o.link i j hi hj in omega (arith, ints) }

  in_order_obeys : (k : ℕ) (x : ℕ → ℤ) → Valued k x → InOrder k R x → Obeys k (order_distance R) x
  in_order_obeys k x v o =
      record {
        link = λ i j hi hj.
            ⊎_elim
            (λ h. let e = bound i j h in let l = o.below i j hi hj h in omega (arith, ints))
            (λ h. let e = free i j h in let a = v.low i hi in let b = v.high j hj in omega (arith, ints))
            (cases_Bool (R i j));
      }

  on_ways : (k : ℕ) (x : ℕ → ℤ) → InOrder k R x → OnWays k (order_way R) x
  on_ways k x o = record { way = λ i j hi hj v e. let (h, z) = way_is i j v e in let l = o.below i j hi hj h in omega (arith, ints) }

  ways_in_order : (k : ℕ) (x : ℕ → ℤ) → OnWays k (order_way R) x → InOrder k R x
  ways_in_order k x o = record { below = λ i j hi hj h. let l = o.way i j hi hj (pos 0) (way_bound i j h) in omega (arith, ints) }

module _ (k : ℕ) (R : ℕ → ℕ → Bool) (t : ℕ) (ss : List ℕ) (A : List ℤ → Bool) (T : Totals k R t ss A) where
  -- a change of column t alone keeps the order
  still_in_order : (x y : ℕ → ℤ) → ((i : ℕ) → i < k → (i ≡ t → ⊥) → y i ≡ x i) → InOrder k R x → InOrder k R y
  still_in_order x y same o =
      record {
        below = λ i j hi hj h.
            ⊎_elim
            (λ e. let f = T.from j hj (sym (ap (λ (n : ℕ). R n j) e) ∙ h) in let g = ap y (e ∙ f) in omega (arith, ints))
            (λ ni. ⊎_elim
            (λ e. absurd (ni (T.to i hi (sym (ap (R i) e) ∙ h))))
            (λ nj. let a = same i hi ni in let b = same j hj nj in let l = o.below i j hi hj h in omega (arith, ints))
            (cases_eq j t))
            (cases_eq i t);
      }

  pub order_meets : Meets k (order_distance R) (order_way R) t ss A
  order_meets =
      record {
        closed = order_closed R T.order k;
        ways = order_ways R T.order k;
        summands =
            record {
              column = T.column;
              apart = λ a b la lb ne u v e f s. T.untied a b la lb ne (way_is R _ _ u e).0 (way_is R _ _ v f).0;
            };
        there = T.there;
        apart = T.apart;
        keeps = λ x v o. on_ways R k x (obeys_in_order R k x o);
        loose = λ x y same v o. in_order_obeys R k y v (still_in_order x y same (ways_in_order R k x o));
        allows = λ x long v o e. T.allows x (obeys_in_order R k (value_at x) o) e;
        obeys = λ x long v a. in_order_obeys R k (value_at x) v (T.ordered x a);
        totals = T.totals;
      }

-- over distances that follow an order
module _ (k t : ℕ) (ss : List ℕ) (A : List ℤ → Bool) (n : ℕ) (d : ℕ → ℕ → ℤ) (F : Follows k t ss A n d) where
  pub follows_closed : (j : ℕ) → Closed j d
  follows_closed j = subst (Closed j) (sym F.by_order) (order_closed F.order F.totals.order j)

  pub follows_meets : Meets k d (order_way F.order) t ss A
  follows_meets = subst (λ (e : ℕ → ℕ → ℤ). Meets k e (order_way F.order) t ss A) (sym F.by_order) (order_meets k F.order t ss A F.totals)
