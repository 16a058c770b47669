-- Plans that keep ways, raised in one column.
use Rattle.std.proofs.Common.{◌≡◌, ℕ, ◌<◌, ℤ, pos, ◌+ℤ◌, ◌-ℤ◌, ◌≤ℤ◌, ◌<ℤ◌, Some, None, Option, refl, arith}
use Rattle.std.specs.Int.{int_max}
use Rattle.std.proofs.lemmas.Int.{ints, clamps}
use Rattle.differences.proofs.Raising.{Under}
use Rattle.rings.proofs.Steps.{most_is}
use Rattle.rings.proofs.Ways.{Ways, OnWays}

-- a column at y, once another that a way o leads to is t or more
abbrev pub lift : ℤ → ℤ → Option ℤ → ℤ
lift y t None = y
lift y t (Some v) = int_max y (t -ℤ v)

-- the least plan over y whose column p is t or more
abbrev pub raised : (ℕ → ℕ → Option ℤ) → (ℕ → ℤ) → ℕ → ℤ → ℕ → ℤ
raised w y p t i = lift (y i) t (w i p)

pub lift_over : (y t : ℤ) (o : Option ℤ) → y ≤ℤ lift y t o
lift_over y t None = omega (arith, ints)
lift_over y t (Some v) = omega (arith, ints, clamps)

pub lift_by : (y t : ℤ) (o : Option ℤ) (v : ℤ) → o ≡ Some v → (t -ℤ v) ≤ℤ lift y t o
lift_by y t None v e = let z : ◌≡◌ {A = ℕ} 0 1 = cc in absurd (omega arith)
lift_by y t (Some u) v e = let s : u ≡ v = cc in omega (arith, ints, clamps)

pub lift_most : (y t : ℤ) (o : Option ℤ) (c : ℤ) → y ≤ℤ c → ((v : ℤ) → o ≡ Some v → (t -ℤ v) ≤ℤ c) → lift y t o ≤ℤ c
lift_most y t None c h f = h
lift_most y t (Some v) c h f = let g = f v refl in omega (arith, ints, clamps)

pub lift_rises : (y t : ℤ) (o : Option ℤ) → y <ℤ lift y t o → (v : ℤ) × (o ≡ Some v) × (lift y t o ≤ℤ (t -ℤ v))
lift_rises y t None h = absurd (omega (arith, ints))
lift_rises y t (Some v) h = (v, refl, omega (arith, ints, clamps))

module _ (k : ℕ) (w : ℕ → ℕ → Option ℤ) (cl : Ways k w) where
  pub raised_keeps : (y : ℕ → ℤ) (p : ℕ) (t : ℤ) → p < k → OnWays k w y → OnWays k w (raised w y p t)
  raised_keeps y p t hp ky = record {
    way = λ i j hi hj v e.
        lift_most (y j) t (w j p) (raised w y p t i +ℤ v)
        (omega (arith, ints, ky.way i j hi hj v e, lift_over (y i) t (w i p)))
        (λ b f.
        let (a, g, le) = most_is (w i p) (v +ℤ b) (cl.short i j p hi hj hp v b e f) in
        omega (arith, ints, le, lift_by (y i) t (w i p) a g));
  }

  pub raised_over : (y : ℕ → ℤ) (p : ℕ) (t : ℤ) → Under k y (raised w y p t)
  raised_over y p t = record { under = λ i hi. lift_over (y i) t (w i p) }

  pub raised_under : (y z : ℕ → ℤ) (p : ℕ) (t : ℤ) → p < k → Under k y z → OnWays k w z → t ≤ℤ z p → Under k (raised w y p t) z
  raised_under y z p t hp u kz h = record {
    under = λ i hi.
        lift_most (y i) t (w i p) (z i) (u.under i hi) (λ a e. omega (arith, ints, kz.way i p hi hp a e, h));
  }

  pub raised_at : (y : ℕ → ℤ) (p : ℕ) (t : ℤ) → p < k → y p ≤ℤ t → raised w y p t p ≡ t
  raised_at y p t hp h =
      omega (
        arith,
        ints,
        lift_by (y p) t (w p p) (pos 0) (cl.zeros p hp),
        lift_most (y p) t (w p p) t h (λ v e. let z : v ≡ pos 0 = cc (e, cl.zeros p hp) in omega (arith, ints)),
      )
