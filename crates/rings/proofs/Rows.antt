-- The loops over a row and over the rows of a table.
use Rattle.std.proofs.Common.{◌≡◌, ℕ, ◌+◌, ◌<◌, ◌≤◌, List, [], ◌++◌, length, get_or, set, take, ℤ, None, Option, ap, ◌∙◌, arith, refl, length-take, get_or-take}
use Rattle.std.proofs.Math.ListN.{get_or-append}
use Rattle.rings.specs.Tables.{entry, at, shorter, joined, Relaxed, Stepped}
use Rattle.rings.proofs.Writes.{Writes, writes_none, writes_more}

-- a row after j of its entries went by another column
pub record Relaxing (old through : List (Option ℤ)) (leg : Option ℤ) (now : List (Option ℤ)) (j : ℕ) : Type 0 where
  pub writes : Writes None (λ q v. v ≡ shorter (entry old q) (joined leg (entry through q))) old now j

pub relaxing_none : (old through : List (Option ℤ)) (leg : Option ℤ) → Relaxing old through leg old 0
relaxing_none old through leg = record { writes = writes_none None _ old old refl }

pub relaxing_more : (old through : List (Option ℤ)) (leg : Option ℤ) (now : List (Option ℤ)) (j : ℕ) (v : Option ℤ) → j < length old
    → Relaxing old through leg now j → v ≡ shorter (entry now j) (joined leg (entry through j)) → Relaxing old through leg (set now j v) (j + 1)
relaxing_more old through leg now j v l r e =
    record { writes = writes_more None _ old now j v l r.writes (e ∙ ap (λ o. shorter o (joined leg (entry through j))) (r.writes.rest j (omega arith))) }

-- the leading entries of a row are relaxed, and the row's end follows them
pub relaxing_all : (n : ℕ) (row through : List (Option ℤ)) (leg : Option ℤ) (now end : List (Option ℤ)) (j : ℕ) → n ≤ length row → length (take n row) ≤ j
    → Relaxing (take n row) through leg now j → Relaxed n row through leg (now ++ end)
relaxing_all n row through leg now end j few all r =
    record {
      is = λ i l.
          let long = length-take n row in
          get_or-append now end None i (omega (arith, r.writes.long)) ∙ r.writes.done i (omega arith)
          ∙ ap (λ o. shorter o (joined leg (entry through i))) (get_or-take n row i None l);
    }

-- the leading k rows of a table after i of them went by column m
pub record Passing (k m : ℕ) (old now : List (List (Option ℤ))) (i : ℕ) : Type 0 where
  pub writes : Writes [] (λ q row. Relaxed k (get_or old q []) (get_or old m []) (at old q m) row) (take k old) now i

pub passing_none : (k m : ℕ) (old : List (List (Option ℤ))) → Passing k m old (take k old) 0
passing_none k m old = record { writes = writes_none [] _ _ _ refl }

-- a row that is still to go by column m is as it was
pub still : (k m : ℕ) (old now : List (List (Option ℤ))) (i : ℕ) → i < length (take k old) → Passing k m old now i → get_or now i [] ≡ get_or old i []
still k m old now i l p = p.writes.rest i (omega arith) ∙ get_or-take k old i [] (omega (arith, length-take k old))

pub passing_more : (k m : ℕ) (old now : List (List (Option ℤ))) (i : ℕ) (row : List (Option ℤ)) → i < length (take k old)
    → Passing k m old now i → Relaxed k (get_or now i []) (get_or old m []) (at now i m) row → Passing k m old (set now i row) (i + 1)
passing_more k m old now i row l p r =
    let same = still k m old now i l p in
    record {
      writes = writes_more [] _ (take k old) now i row l p.writes
          (record { is = λ j h. r.is j h ∙ (λ x. shorter (entry (same x) j) (joined (entry (same x) m) (at old m j))) });
    }

pub passing_all : (k m : ℕ) (old now end : List (List (Option ℤ))) (i : ℕ) → k ≤ length old → length (take k old) ≤ i → Passing k m old now i
    → Stepped k m (at old) (at (now ++ end))
passing_all k m old now end i few all p =
    record {
      is = λ a b ha hb.
          let long = length-take k old in
          ap (λ (row : List (Option ℤ)). entry row b) (get_or-append now end [] a (omega (arith, p.writes.long))) ∙ (p.writes.done a (omega arith)).is b hb;
    }
