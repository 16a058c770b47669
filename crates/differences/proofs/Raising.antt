-- The least and the greatest values with one column at a given value.
use Rattle.std.proofs.Common.{◌≡◌, ℕ, ◌<◌, ℤ, ◌+ℤ◌, ◌-ℤ◌, ◌≤ℤ◌, arith}
use Rattle.std.specs.Int.{int_max, int_min}
use Rattle.std.proofs.lemmas.Int.{ints, clamps}
use Rattle.differences.specs.Tables.{Obeys, Closed}

-- y is at most z at each of k columns
pub record Under (k : ℕ) (y z : ℕ → ℤ) : Type 0 where
  pub under : (i : ℕ) → i < k → y i ≤ℤ z i

-- the least values over y that have v or more in column p
abbrev pub raised : (ℕ → ℕ → ℤ) → (ℕ → ℤ) → ℕ → ℤ → ℕ → ℤ
raised d y p v i = int_max (y i) (v -ℤ d i p)

-- the greatest values under z that have v or less in column p
abbrev pub lowered : (ℕ → ℕ → ℤ) → (ℕ → ℤ) → ℕ → ℤ → ℕ → ℤ
lowered d z p v i = int_min (z i) (v +ℤ d p i)

module _ (k : ℕ) (d : ℕ → ℕ → ℤ) (cl : Closed k d) where
  pub raised_obeys : (y : ℕ → ℤ) (p : ℕ) (v : ℤ) → p < k → Obeys k d y → Obeys k d (raised d y p v)
  raised_obeys y p v hp oy = record { link = λ i j hi hj. omega (arith, ints, clamps, oy.link i j hi hj, cl.short i j p hi hj hp) }

  pub raised_over : (y : ℕ → ℤ) (p : ℕ) (v : ℤ) → Under k y (raised d y p v)
  raised_over y p v = record { under = λ i hi. omega (arith, ints, clamps) }

  pub raised_under : (y z : ℕ → ℤ) (p : ℕ) (v : ℤ) → p < k → Under k y z → Obeys k d z → v ≤ℤ z p → Under k (raised d y p v) z
  raised_under y z p v hp u oz h = record { under = λ i hi. omega (arith, ints, clamps, u.under i hi, oz.link i p hi hp) }

  pub raised_at : (y : ℕ → ℤ) (p : ℕ) (v : ℤ) → p < k → y p ≤ℤ v → raised d y p v p ≡ v
  raised_at y p v hp h = omega (arith, ints, clamps, cl.zeros p hp)

  pub lowered_obeys : (z : ℕ → ℤ) (p : ℕ) (v : ℤ) → p < k → Obeys k d z → Obeys k d (lowered d z p v)
  lowered_obeys z p v hp oz = record { link = λ i j hi hj. omega (arith, ints, clamps, oz.link i j hi hj, cl.short p i j hp hi hj) }

  pub lowered_under : (z : ℕ → ℤ) (p : ℕ) (v : ℤ) → Under k (lowered d z p v) z
  lowered_under z p v = record { under = λ i hi. omega (arith, ints, clamps) }

  pub lowered_over : (y z : ℕ → ℤ) (p : ℕ) (v : ℤ) → p < k → Under k y z → Obeys k d y → y p ≤ℤ v → Under k y (lowered d z p v)
  lowered_over y z p v hp u oy h = record { under = λ i hi. omega (arith, ints, clamps, u.under i hi, oy.link p i hp hi) }

  pub lowered_at : (z : ℕ → ℤ) (p : ℕ) (v : ℤ) → p < k → v ≤ℤ z p → lowered d z p v p ≡ v
  lowered_at z p v hp h = omega (arith, ints, clamps, cl.zeros p hp)

  -- the least and the greatest values with v in column p
  pub raised_lowered : (y z : ℕ → ℤ) (p : ℕ) (v : ℤ) → p < k → Under k y z → Obeys k d y → Obeys k d z → y p ≤ℤ v → v ≤ℤ z p → Under k (raised d y p v) (lowered d z p v)
  raised_lowered y z p v hp u oy oz low high =
      record { under = λ i h. omega (arith, ints, clamps, u.under i h, oy.link p i hp h, oz.link i p h hp, cl.short i p i h hp h, cl.zeros i h) }
