-- The entries of a table after a write to one of them.
use Rattle.std.proofs.Common.{◌≡◌, ℕ, ◌<◌, List, length, get_or, set, ℤ, pos, get_or-set_other, get_or-set_same}
use native.Mathlib.Decide.{ℕ_discrete}
use Rattle.differences.specs.Tables.{entry}

-- a table whose row r is replaced by one that differs in column c alone
module _ (rows : List (List ℤ)) (r c : ℕ) (new : List ℤ) (hr : r < length rows) (rest : (j : ℕ) → ¬ (j ≡ c) → get_or new j (pos 0) ≡ entry rows r j) where
  pub put_same : entry (set rows r new) r c ≡ get_or new c (pos 0)
  put_same = rw get_or-set_same

  pub put_other : (i j : ℕ) → ¬ ((i ≡ r) × (j ≡ c)) → entry (set rows r new) i j ≡ entry rows i j
  put_other i j ne =
      elim (ℕ_discrete i r) [
        | yes e ↦ elim (ℕ_discrete j c) [ yes s ↦ absurd (ne (e, s)) | no s ↦ rw (e, get_or-set_same) (rest j s) ]
        | no e ↦ rw get_or-set_other
      ]

  -- what holds of the entry that was written and of all others holds of each
  pub put_each : (P : ℕ → ℕ → ℤ → Type 0) → P r c (get_or new c (pos 0)) → (i j : ℕ) → P i j (entry rows i j) → P i j (entry (set rows r new) i j)
  put_each P here i j there =
      elim (ℕ_discrete i r) [
        | yes e ↦ elim (ℕ_discrete j c) [ yes s ↦ rw (e, s, get_or-set_same) here | no s ↦ rw (put_other i j (λ b. s b.1)) there ]
        | no e ↦ rw (put_other i j (λ b. e b.0)) there
      ]
