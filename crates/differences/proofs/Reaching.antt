-- Each distance of a closed table is reached by values.
use Rattle.std.proofs.Common.{◌≡◌, ℕ, ◌<◌, ℤ, pos, negsuc, ◌+ℤ◌, ◌-ℤ◌, ◌≤ℤ◌, arith}
use Rattle.std.proofs.lemmas.Int.{ints, clamps}
use Rattle.differences.specs.Tables.{Obeys, Closed}
use Rattle.differences.specs.Closing.{Values}
use Rattle.differences.specs.Ends.{first_left, last_left}
use Rattle.differences.proofs.Raising.{lowered, lowered_obeys, lowered_at}
use Rattle.differences.proofs.Leaving.{first_each, first_least, last_base, last_most, last_obeys}

module _ (k : ℕ) (d : ℕ → ℕ → ℤ) (cl : Closed k d) (i j : ℕ) (hi : i < k) (hj : j < k) where
  -- the least value that column i can have, and the greatest of each column
  abbrev least : ℤ
  least = first_left d (λ _. negsuc 29999999) i k

  abbrev greatest : ℕ → ℤ
  greatest m = last_left d (λ _. pos 30000000) m k

  -- the values with column i at its least, and every other column as far above it as it can be
  abbrev pub stretched : ℕ → ℤ
  stretched = lowered d greatest i least

  least_under : (c : ℤ) → negsuc 29999999 ≤ℤ c → ((m : ℕ) → m < k → (negsuc 29999999 -ℤ d i m) ≤ℤ c) → least ≤ℤ c
  least_under c h g = first_least d (λ _. negsuc 29999999) i k c h g

  fits : least ≤ℤ greatest i
  fits =
      last_most d (λ _. pos 30000000) i k least
      (least_under (pos 30000000) (omega (arith, ints)) (λ m hm. omega (arith, ints, cl.near i m hi hm)))
      (λ n hn.
      least_under (pos 30000000 +ℤ d n i) (omega (arith, ints, cl.near n i hn hi))
      (λ m hm. omega (arith, ints, cl.short n i m hn hi hm, cl.near n m hn hm)))

  there : (least +ℤ d i j) ≤ℤ greatest j
  there =
      last_most d (λ _. pos 30000000) j k (least +ℤ d i j)
      (let h = least_under (pos 30000000 -ℤ d i j) (omega (arith, ints, cl.near i j hi hj)) (λ m hm. omega (arith, ints, cl.short i m j hi hm hj, cl.near m j hm hj)) in
      omega (arith, ints))
      (λ n hn.
      let h =
      least_under ((pos 30000000 +ℤ d n j) -ℤ d i j) (omega (arith, ints, cl.short i n j hi hn hj, cl.near i n hi hn))
      (λ m hm. omega (arith, ints, cl.short i m j hi hm hj, cl.short m n j hm hn hj, cl.near m n hm hn))
      in
      omega (arith, ints))

  pub stretched_obeys : Obeys k d stretched
  stretched_obeys = lowered_obeys k d cl greatest i least hi (last_obeys k d (λ _. pos 30000000) cl)

  pub stretched_values : Values k stretched
  stretched_values =
      record {
        low = λ m hm.
            omega (
              arith,
              ints,
              clamps,
              first_each d (λ _. negsuc 29999999) i k m hm,
              last_most d (λ _. pos 30000000) m k (negsuc 29999999) (omega (arith, ints)) (λ n hn. omega (arith, ints, cl.near n m hn hm)),
            );
        high = λ m hm. omega (arith, ints, clamps, last_base d (λ _. pos 30000000) m k);
      }

  pub stretched_reaches : stretched j ≡ stretched i +ℤ d i j
  stretched_reaches = omega (arith, ints, clamps, lowered_at k d cl greatest i least hi fits, there)
