-- Every total between those of two plans is that of a plan between them.
use Rattle.std.proofs.Common.{◌≡◌, ℕ, zero, suc, ◌<◌, ℤ, pos, ◌+ℤ◌, ◌-ℤ◌, nat_abs, ◌≤ℤ◌, ◌<ℤ◌, Some, Option, inl, inr, arith}
use Rattle.std.proofs.lemmas.Int.{ints, clamps, by_lt_z}
use Rattle.differences.proofs.Raising.{Under}
use Rattle.rings.proofs.Steps.{most_is}
use Rattle.rings.proofs.Ways.{Ways, OnWays}
use Rattle.totals.specs.Adding.{total}
use Rattle.totals.proofs.Adding.{sum_mono, sum_gap, sum_one, find_gap}
use Rattle.totals.proofs.Growing.{raised, raised_keeps, raised_over, raised_under, raised_at, lift_rises}

-- the summands stand at n places, s a is the column of place a; no two places are tied
pub record Summands (k : ℕ) (w : ℕ → ℕ → Option ℤ) (n : ℕ) (s : ℕ → ℕ) : Type 0 where
  pub column : (a : ℕ) → a < n → s a < k
  pub apart : (a b : ℕ) → a < n → b < n → ¬ (a ≡ b) → (u v : ℤ) → w (s a) (s b) ≡ Some u → w (s b) (s a) ≡ Some v → ¬ (u +ℤ v ≡ pos 0)

pub record Between (k : ℕ) (w : ℕ → ℕ → Option ℤ) (y z x : ℕ → ℤ) : Type 0 where
  pub keeps : OnWays k w x
  pub over : Under k y x
  pub below : Under k x z

module _ (k : ℕ) (w : ℕ → ℕ → Option ℤ) (n : ℕ) (s : ℕ → ℕ) (cl : Ways k w) (sm : Summands k w n s) where
  pub total_mono : (y z : ℕ → ℤ) → Under k y z → total n s y ≤ℤ total n s z
  total_mono y z u = sum_mono n (λ a. y (s a)) (λ a. z (s a)) (λ a l. u.under (s a) (sm.column a l))

  abbrev up_one : (ℕ → ℤ) → ℕ → ℕ → ℤ
  up_one y a = raised w y (s a) (y (s a) +ℤ pos 1)

  up_between : (y z : ℕ → ℤ) (a : ℕ) → a < n → Under k y z → OnWays k w y → OnWays k w z → y (s a) <ℤ z (s a) → Between k w y z (up_one y a)
  up_between y z a la u ky kz lt = record {
    keeps = raised_keeps k w cl y (s a) (y (s a) +ℤ pos 1) (sm.column a la) ky;
    over = raised_over k w cl y (s a) (y (s a) +ℤ pos 1);
    below = raised_under k w cl y z (s a) (y (s a) +ℤ pos 1) (sm.column a la) u kz (omega (arith, ints, lt));
  }

  up_more : (y z : ℕ → ℤ) (a : ℕ) → a < n → total n s y <ℤ total n s (up_one y a)
  up_more y z a la =
      omega (
        arith,
        ints,
        sum_gap n (λ b. y (s b)) (λ b. up_one y a (s b)) a la (λ b l. (raised_over k w cl y (s a) (y (s a) +ℤ pos 1)).under (s b) (sm.column b l)),
        raised_at k w cl y (s a) (y (s a) +ℤ pos 1) (sm.column a la) (omega (arith, ints)),
      )

  -- if the total is no less than z's, then x is z at each summand
  all_same : (x z : ℕ → ℤ) → Under k x z → total n s z ≤ℤ total n s x → (b : ℕ) → b < n → z (s b) ≤ℤ x (s b)
  all_same x z u le b lb = omega (arith, ints, le, sum_gap n (λ c. x (s c)) (λ c. z (s c)) b lb (λ c l. u.under (s c) (sm.column c l)))

  abbrev Strict : (ℕ → ℤ) → (ℕ → ℤ) → Type 0
  Strict y z = (x : ℕ → ℤ) × Between k w y z x × (total n s y <ℤ total n s x) × (total n s x <ℤ total n s z)

  -- the two ways to rise by one at a place reach each other's place: then the two places are tied
  tied : (y z : ℕ → ℤ) (a b : ℕ) → a < n → b < n → ¬ (a ≡ b) → y (s a) <ℤ z (s a) → y (s b) <ℤ z (s b)
      → z (s a) ≤ℤ up_one y a (s a) → z (s b) ≤ℤ up_one y a (s b) → z (s b) ≤ℤ up_one y b (s b) → z (s a) ≤ℤ up_one y b (s a) → ⊥
  tied y z a b la lb ne ha hb h1 h2 h3 h4 =
      let (v, e, le) = lift_rises (y (s b)) (y (s a) +ℤ pos 1) (w (s b) (s a)) (omega (arith, ints, hb, h2)) in
      let (u, f, le') = lift_rises (y (s a)) (y (s b) +ℤ pos 1) (w (s a) (s b)) (omega (arith, ints, ha, h4)) in
      let (z0, g, zero-le) = most_is (w (s a) (s a)) (u +ℤ v) (cl.short (s a) (s b) (s a) (sm.column a la) (sm.column b lb) (sm.column a la) u v f e) in
      let same : z0 ≡ pos 0 = cc (g, cl.zeros (s a) (sm.column a la)) in
      sm.apart a b la lb ne u v f e (omega (arith, ints, hb, h2, ha, h4))

  strict : (y z : ℕ → ℤ) → Under k y z → OnWays k w y → OnWays k w z → (total n s y +ℤ pos 2) ≤ℤ total n s z → Strict y z
  strict y z u ky kz far =
      elim (find_gap n (λ a. y (s a)) (λ a. z (s a)) n) [
        | inr none ↦ absurd (omega (arith, ints, sum_mono n (λ a. z (s a)) (λ a. y (s a)) (λ a l. none a l (omega arith))))
        | inl (a, la, na, ha) ↦
            let x = up_one y a in
            let xb = up_between y z a la u ky kz ha in
            by_lt_z (total n s x) (total n s z) (λ lt. (x, xb, up_more y z a la, lt))
            (λ ge. let same = all_same x z xb.below ge in
            elim (find_gap n (λ c. y (s c)) (λ c. z (s c)) a) [
              | inr none ↦ absurd (omega (
                arith,
                ints,
                sum_one n (λ c. y (s c)) (λ c. z (s c)) a (u.under (s a) (sm.column a la)) none,
                same a la,
                raised_at k w cl y (s a) (y (s a) +ℤ pos 1) (sm.column a la) (omega (arith, ints)),
              ))
              | inl (b, lb, nb, hb) ↦
                  let x' = up_one y b in
                  let xb' = up_between y z b lb u ky kz hb in
                  by_lt_z (total n s x') (total n s z) (λ lt. (x', xb', up_more y z b lb, lt))
                  (λ ge'. let same' = all_same x' z xb'.below ge' in
                  absurd (tied y z a b la lb (λ e. nb (omega arith)) ha hb (same a la) (same b lb) (same' b lb) (same' a la)))
            ])
      ]

  pub under_trans : (x y z : ℕ → ℤ) → Under k x y → Under k y z → Under k x z
  under_trans x y z p q = record { under = λ i h. omega (arith, ints, p.under i h, q.under i h) }

  abbrev Reached : (ℕ → ℤ) → (ℕ → ℤ) → ℤ → Type 0
  Reached y z t = (x : ℕ → ℤ) × Between k w y z x × (total n s x ≡ t)

  reach_fuel : (fuel : ℕ) (y z : ℕ → ℤ) (t : ℤ) → Under k y z → OnWays k w y → OnWays k w z → total n s y ≤ℤ t → t ≤ℤ total n s z
      → total n s z ≤ℤ (total n s y +ℤ pos fuel) → Reached y z t
  reach_fuel zero y z t u ky kz lo hi small =
      (y, record { keeps = ky; over = record { under = λ i h. omega (arith, ints) }; below = u }, omega (arith, ints, lo, hi, small))
  reach_fuel (suc fuel) y z t u ky kz lo hi small =
      by_lt_z (total n s y) t
      (λ gt. by_lt_z t (total n s z)
      (λ lt.
      let (x, xb, more, less) = strict y z u ky kz (omega (arith, ints, gt, lt)) in
      by_lt_z t (total n s x)
      (λ tx. let (v, vb, e) = reach_fuel fuel y x t xb.over ky xb.keeps lo (omega (arith, ints, tx)) (omega (arith, ints, small, less)) in
      (v, record { keeps = vb.keeps; over = vb.over; below = under_trans v x z vb.below xb.below }, e))
      (λ xt. let (v, vb, e) = reach_fuel fuel x z t xb.below xb.keeps kz xt hi (omega (arith, ints, small, more)) in
      (v, record { keeps = vb.keeps; over = under_trans y x v xb.over vb.over; below = vb.below }, e)))
      (λ ge. (z, record { keeps = kz; over = u; below = record { under = λ i h. omega (arith, ints) } }, omega (arith, ints, hi, ge))))
      (λ ge. (y, record { keeps = ky; over = record { under = λ i h. omega (arith, ints) }; below = u }, omega (arith, ints, lo, ge)))

  pub reach : (y z : ℕ → ℤ) (t : ℤ) → Under k y z → OnWays k w y → OnWays k w z → total n s y ≤ℤ t → t ≤ℤ total n s z → Reached y z t
  reach y z t u ky kz lo hi = reach_fuel (nat_abs (total n s z -ℤ total n s y)) y z t u ky kz lo hi (omega (arith, ints, clamps))
