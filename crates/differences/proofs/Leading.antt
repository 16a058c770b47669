-- The leading rows of a table, closed in its place.
use Rattle.std.proofs.Common.{◌≡◌, ℕ, ◌<◌, ◌≤◌, List, [], ◌++◌, length, take, get_or, ℤ, pos, sym, ap, ◌∙◌, arith}
use Rattle.std.proofs.lemmas.List.{length-take-le, get_or-take, get_or_append_left}
use Rattle.std.proofs.lemmas.Int.{ints}
use Rattle.differences.specs.Tables.{entry, Obeys}
use Rattle.differences.specs.Closing.{NearRows, NoValues, ClosedFrom}
use Rattle.differences.proofs.Tabling.{closed_same}

obeys_same : (k : ℕ) (d e : ℕ → ℕ → ℤ) → ((i j : ℕ) → i < k → j < k → d i j ≡ e i j) → (x : ℕ → ℤ) → Obeys k d x → Obeys k e x
obeys_same k d e same x o = record { link = λ i j hi hj. omega (arith, ints, o.link i j hi hj, same i j hi hj) }

module _ (k : ℕ) (rows : List (List ℤ)) (fits : k ≤ length rows) where
  pub leading_long : length (take k rows) ≡ k
  leading_long = length-take-le k rows fits

  leading_entry : (i j : ℕ) → i < k → j < k → entry (take k rows) i j ≡ entry rows i j
  leading_entry i j hi hj = ap (λ r. get_or r j (pos 0)) (get_or-take k rows i [] hi)

  pub leading_rows_near : NearRows k rows → NearRows (length (take k rows)) (take k rows)
  leading_rows_near n = rw leading_long (record { near = λ i h. rw (get_or-take k rows i [] h) (n.near i h) })

  pub leading_zeros : ((i : ℕ) → i < k → entry rows i i ≡ pos 0) → (i : ℕ) → i < length (take k rows) → entry (take k rows) i i ≡ pos 0
  leading_zeros zeros i h = let lt : i < k = omega (arith, leading_long) in leading_entry i i lt lt ∙ zeros i lt

  pub leading_none : NoValues (length (take k rows)) (take k rows) → NoValues k rows
  leading_none n =
      let none = rw leading_long at n in
      record { none = λ x values o. none.none x values (obeys_same k (entry rows) (entry (take k rows)) (λ i j hi hj. sym (leading_entry i j hi hj)) x o) }

  -- the closed rows, and the others after them
  module _ (new rest : List (List ℤ)) (long : length new ≡ k) where
    whole_entry : (i j : ℕ) → i < k → j < k → entry new i j ≡ entry (new ++ rest) i j
    whole_entry i j hi hj = ap (λ r. get_or r j (pos 0)) (sym (get_or_append_left new rest [] i (omega (arith, long))))

    pub leading_closed : ClosedFrom (length (take k rows)) (take k rows) new → ClosedFrom k rows (new ++ rest)
    leading_closed c =
        let made = rw leading_long at c in
        record {
          closed = closed_same k (entry new) (entry (new ++ rest)) whole_entry made.closed;
          on = λ x o.
              obeys_same k (entry new) (entry (new ++ rest)) whole_entry x
              (made.on x (obeys_same k (entry rows) (entry (take k rows)) (λ i j hi hj. sym (leading_entry i j hi hj)) x o));
          back = λ x o.
              obeys_same k (entry (take k rows)) (entry rows) leading_entry x
              (made.back x (obeys_same k (entry (new ++ rest)) (entry new) (λ i j hi hj. sym (whole_entry i j hi hj)) x o));
        }
