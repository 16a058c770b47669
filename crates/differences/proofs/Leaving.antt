-- The ends that distances leave of windows.
use Rattle.std.proofs.Common.{◌≡◌, ℕ, zero, suc, ◌+◌, ◌<◌, ℤ, ◌+ℤ◌, ◌-ℤ◌, ◌≤ℤ◌, ap, add-one, arith}
use native.Mathlib.Decide.{dec_lt}
use Rattle.std.specs.Int.{int_max, int_min}
use Rattle.std.proofs.lemmas.Int.{ints, clamps}
use Rattle.differences.specs.Tables.{Obeys, Closed}
use Rattle.differences.specs.Ends.{first_left, last_left}
use Rattle.differences.proofs.Raising.{Under}

module _ (d : ℕ → ℕ → ℤ) (f : ℕ → ℤ) (i : ℕ) where
  pub first_base : (n : ℕ) → f i ≤ℤ first_left d f i n
  first_base zero = omega (arith, ints)
  first_base (suc n) = omega (arith, ints, clamps, first_base n)

  pub first_each : (n j : ℕ) → j < n → (f j -ℤ d i j) ≤ℤ first_left d f i n
  first_each zero j l = absurd (omega arith)
  first_each (suc n) j l =
      elim (dec_lt j n) [
        | yes h ↦ omega (arith, ints, clamps, first_each n j h)
        | no h ↦ let e : j ≡ n = omega arith in omega (arith, ints, clamps, ap f e, ap (d i) e)
      ]

  pub first_least : (n : ℕ) (c : ℤ) → f i ≤ℤ c → ((j : ℕ) → j < n → (f j -ℤ d i j) ≤ℤ c) → first_left d f i n ≤ℤ c
  first_least zero c h g = h
  first_least (suc n) c h g = omega (arith, ints, clamps, first_least n c h (λ a l. g a (omega arith)), g n (omega arith))

  pub first_more : (n : ℕ) → first_left d f i (n + 1) ≡ int_max (first_left d f i n) (f n -ℤ d i n)
  first_more n = rw add-one

  pub last_base : (n : ℕ) → last_left d f i n ≤ℤ f i
  last_base zero = omega (arith, ints)
  last_base (suc n) = omega (arith, ints, clamps, last_base n)

  pub last_each : (n j : ℕ) → j < n → last_left d f i n ≤ℤ (f j +ℤ d j i)
  last_each zero j l = absurd (omega arith)
  last_each (suc n) j l =
      elim (dec_lt j n) [
        | yes h ↦ omega (arith, ints, clamps, last_each n j h)
        | no h ↦ let e : j ≡ n = omega arith in omega (arith, ints, clamps, ap f e, ap (λ a. d a i) e)
      ]

  pub last_most : (n : ℕ) (c : ℤ) → c ≤ℤ f i → ((j : ℕ) → j < n → c ≤ℤ (f j +ℤ d j i)) → c ≤ℤ last_left d f i n
  last_most zero c h g = h
  last_most (suc n) c h g = omega (arith, ints, clamps, last_most n c h (λ a l. g a (omega arith)), g n (omega arith))

  pub last_more : (n : ℕ) → last_left d f i (n + 1) ≡ int_min (last_left d f i n) (f n +ℤ d n i)
  last_more n = rw add-one

module _ (k : ℕ) (d : ℕ → ℕ → ℤ) where
  -- values that obey the distances lie between the ends that are left
  pub first_sound : (f x : ℕ → ℤ) → Obeys k d x → Under k f x → Under k (λ i. first_left d f i k) x
  first_sound f x o u = record { under = λ i h. first_least d f i k (x i) (u.under i h) (λ j l. omega (arith, ints, u.under j l, o.link i j h l)) }

  pub last_sound : (l x : ℕ → ℤ) → Obeys k d x → Under k x l → Under k x (λ i. last_left d l i k)
  last_sound l x o u = record { under = λ i h. last_most d l i k (x i) (u.under i h) (λ j h'. omega (arith, ints, u.under j h', o.link j i h' h)) }

  -- and the ends obey them too
  pub first_obeys : (f : ℕ → ℤ) → Closed k d → Obeys k d (λ i. first_left d f i k)
  first_obeys f cl =
      record {
        link = λ i j hi hj.
            first_least d f j k (first_left d f i k +ℤ d i j)
            (omega (arith, ints, first_each d f i k j hj))
            (λ m l. omega (arith, ints, first_each d f i k m l, cl.short i j m hi hj l));
      }

  pub last_obeys : (l : ℕ → ℤ) → Closed k d → Obeys k d (λ i. last_left d l i k)
  last_obeys l cl =
      record {
        link = λ i j hi hj.
            let h : (last_left d l j k -ℤ d i j) ≤ℤ last_left d l i k =
            last_most d l i k (last_left d l j k -ℤ d i j)
            (omega (arith, ints, last_each d l j k i hi))
            (λ m hm. omega (arith, ints, last_each d l j k m hm, cl.short m i j hm hi hj))
            in
            omega (arith, ints, h);
      }
