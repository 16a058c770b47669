-- The loop that writes the diagonal of the table that binds no two values.
use Rattle.std.proofs.Common.{◌≡◌, ℕ, ◌+◌, ◌<◌, ◌≤◌, List, [], length, get_or, set, replicate, ℤ, pos, ap, ◌∙◌, arith, length-set}
use native.Mathlib.Decide.{ℕ_discrete}
use Rattle.std.specs.Int.{int_min}
use Rattle.std.proofs.lemmas.List.{get_or-replicate}
use Rattle.std.proofs.lemmas.Int.{ints, clamps}
use Rattle.differences.specs.Tables.{entry, Closed}
use Rattle.differences.specs.Closing.{AllFar, Unlinked}
use Rattle.differences.proofs.Entries.{put_same, put_other}

-- the diagonal is written in the first n rows
pub record Unlinking (rows : List (List ℤ)) (n : ℕ) : Type 0 where
  pub long : length rows ≡ 32
  pub zeros : (i : ℕ) → i < n → entry rows i i ≡ pos 0
  pub far : (i j : ℕ) → i < 32 → j < 32 → (i ≡ j → n ≤ i) → entry rows i j ≡ pos 60000000

-- equal rows of 60,000,000
pub all_far : (rows : List (List ℤ)) → rows ≡ replicate 32 (replicate 32 (pos 60000000)) → AllFar rows
all_far rows e =
    record {
      far = λ i j hi hj.
          ap (λ (t : List (List ℤ)). entry t i j) e
          ∙ (ap (λ (r : List ℤ). get_or r j (pos 0)) (get_or-replicate 32 i (replicate 32 (pos 60000000)) [] hi) ∙ get_or-replicate 32 j (pos 60000000) (pos 0) hj);
    }

pub unlinking_none : (rows : List (List ℤ)) → length rows ≡ 32 → AllFar rows → Unlinking rows 0
unlinking_none rows long h = record { long = long; zeros = λ i l. absurd (omega arith); far = λ i j hi hj _. h.far i j hi hj }

pub unlinking_more : (rows : List (List ℤ)) (n : ℕ) (new : List ℤ) → n < 32 → get_or new n (pos 0) ≡ int_min (entry rows n n) (pos 0)
    → ((j : ℕ) → ¬ (j ≡ n) → get_or new j (pos 0) ≡ entry rows n j) → Unlinking rows n → Unlinking (set rows n new) (n + 1)
unlinking_more rows n new h same rest inv =
    let lt : n < length rows = omega (arith, inv.long) in
    record {
      long = length-set rows n new ∙ inv.long;
      zeros = λ i hi.
          elim (ℕ_discrete i n) [
            | yes e ↦ rw e (omega (arith, ints, clamps, put_same rows n n new lt rest, same, inv.far n n h h (λ _. omega arith)))
            | no e ↦ put_other rows n n new lt rest i i (λ b. e b.0) ∙ inv.zeros i (omega arith)
          ];
      far = λ i j hi hj apart. put_other rows n n new lt rest i j (λ b. absurd (omega (arith, b.0, b.1, apart (omega (arith, b.0, b.1))))) ∙ inv.far i j hi hj (λ e. omega (arith, apart e));
    }

pub unlinking_all : (rows : List (List ℤ)) (n : ℕ) → 32 ≤ n → Unlinking rows n → Unlinked rows
unlinking_all rows n h inv = record { zeros = λ i hi. inv.zeros i (omega arith); far = λ i j hi hj ne. inv.far i j hi hj (λ e. absurd (ne e)) }

-- with one column such a table is closed
pub one_closed : (rows : List (List ℤ)) → Unlinked rows → Closed 1 (entry rows)
one_closed rows u =
    let z = u.zeros 0 (omega arith) in
    record {
      near = λ i j hi hj. let a : i ≡ 0 = omega arith in let b : j ≡ 0 = omega arith in rw (a, b) (omega (arith, ints), omega (arith, ints));
      zeros = λ i hi. u.zeros i (omega arith);
      short = λ i m j hi hm hj. let a : i ≡ 0 = omega arith in let b : m ≡ 0 = omega arith in let e : j ≡ 0 = omega arith in rw (a, b, e) (omega (arith, ints));
    }
