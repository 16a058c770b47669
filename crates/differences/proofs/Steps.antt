-- A step of the closing of a table: every way through the first m columns is there already.
use Rattle.std.proofs.Common.{◌≡◌, ℕ, ◌+◌, ◌<◌, ℤ, pos, ◌+ℤ◌, ◌≤ℤ◌, ap, arith}
use native.Mathlib.Decide.{ℕ_discrete}
use Rattle.std.proofs.lemmas.Int.{ints, clamps}
use Rattle.differences.specs.Tables.{Obeys}
use Rattle.differences.specs.Closing.{Stepped}

pub record Through (k m : ℕ) (d : ℕ → ℕ → ℤ) : Type 0 where
  pub zeros : (i : ℕ) → i < k → d i i ≡ pos 0
  pub short : (i n j : ℕ) → i < k → n < k → j < k → n < m → d i j ≤ℤ (d i n +ℤ d n j)

module _ (k m : ℕ) (d e : ℕ → ℕ → ℤ) (hm : m < k) (st : Stepped k m d e) where
  pub step_back : (x : ℕ → ℤ) → Obeys k e x → Obeys k d x
  step_back x o = record { link = λ i j hi hj. omega (arith, ints, clamps, o.link i j hi hj, st.is i j hi hj) }

  pub step_on : (x : ℕ → ℤ) → Obeys k d x → Obeys k e x
  step_on x o = record { link = λ i j hi hj. omega (arith, ints, clamps, o.link i j hi hj, o.link i m hi hm, o.link m j hm hj, st.is i j hi hj) }

  step_zeros : Through k m d → (i : ℕ) → i < k → e i i ≡ pos 0
  step_zeros v i hi = omega (arith, ints, clamps, st.is i i hi hi, st.diagonal i hi, v.zeros i hi)

  pub step_through : Through k m d → Through k (m + 1) e
  step_through v =
      record {
        zeros = step_zeros v;
        short = λ i n j hi hn hj h.
            elim (ℕ_discrete n m) [
              | yes q ↦ omega (arith, ints, clamps, st.is i j hi hj, st.is i m hi hm, st.is m j hm hj, v.zeros m hm, ap (λ a. e i a) q, ap (λ a. e a j) q)
              | no q ↦
                  omega (
                    arith,
                    ints,
                    clamps,
                    st.is i j hi hj,
                    st.is i n hi hn,
                    st.is n j hn hj,
                    v.zeros m hm,
                    v.short i n j hi hn hj (omega arith),
                    v.short m n j hm hn hj (omega arith),
                    v.short i n m hi hn hm (omega arith),
                    v.short m n m hm hn hm (omega arith),
                  )
            ];
      }
