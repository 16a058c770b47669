-- The loops that shorten a row, and all rows, by way of one column.
use Rattle.std.proofs.Common.{◌≡◌, ℕ, ◌+◌, ◌<◌, ◌≤◌, List, [], length, take, get_or, set, ℤ, pos, ◌+ℤ◌, ◌≤ℤ◌, ◌<ℤ◌, ap, ◌∙◌, subst, arith, length-set, get_or-set_other, get_or-set_same}
use native.Mathlib.Decide.{ℕ_discrete}
use Rattle.std.specs.Int.{int_min}
use Rattle.std.proofs.lemmas.List.{length-take-le, get_or-take}
use Rattle.std.proofs.lemmas.Int.{ints, clamps}
use Rattle.differences.specs.Tables.{entry, Near}
use Rattle.differences.specs.Closing.{NearRow, NearRows, Relaxed, TooFar, NoValues, Stepped}

-- the row after j columns
pub record Relaxing (k : ℕ) (old through : List ℤ) (leg : ℤ) (now : List ℤ) (j : ℕ) : Type 0 where
  pub long : length now ≡ 32
  pub near : NearRow k now
  pub done : (q : ℕ) → q < j → get_or now q (pos 0) ≡ int_min (get_or old q (pos 0)) (leg +ℤ get_or through q (pos 0))
  pub rest : (q : ℕ) → q < k → j ≤ q → get_or now q (pos 0) ≡ get_or old q (pos 0)

pub relaxing_more : (k : ℕ) (old through : List ℤ) (leg : ℤ) (now : List ℤ) (j : ℕ) (v : ℤ) → j < k → k ≤ 32
    → Near v → v ≡ int_min (get_or now j (pos 0)) (leg +ℤ get_or through j (pos 0)) → Relaxing k old through leg now j → Relaxing k old through leg (set now j v) (j + 1)
relaxing_more k old through leg now j v hj hl nv e inv =
    let lt : j < length now = omega arith in
    record {
      long = length-set now j v ∙ inv.long;
      near = record { near = λ q h. elim (ℕ_discrete q j) [ yes s ↦ rw (s, get_or-set_same) nv | no s ↦ rw get_or-set_other (inv.near.near q h) ] };
      done = λ q h.
          elim (ℕ_discrete q j) [
            | yes s ↦ rw (s, get_or-set_same) (e ∙ ap (λ x. int_min x (leg +ℤ get_or through j (pos 0))) (inv.rest j hj (omega arith)))
            | no s ↦ rw get_or-set_other (inv.done q (omega arith))
          ];
      rest = λ q h g. let s : ¬ (q ≡ j) = omega arith in rw get_or-set_other (inv.rest q h (omega arith));
    }

pub relaxing_all : (k : ℕ) (old through : List ℤ) (leg : ℤ) (now : List ℤ) (j : ℕ) → k ≤ j → Relaxing k old through leg now j → Relaxed k old through leg now
relaxing_all k old through leg now j h inv = record { near = inv.near; is = λ q l. inv.done q (omega arith) }

-- the leading k entries of a row say what the row says of k columns
module _ (k : ℕ) (through : List ℤ) (fits : k ≤ length through) where
  pub leading_near : NearRow k through → NearRow (length (take k through)) (take k through)
  leading_near n =
      let long = length-take-le k through fits in
      record { near = λ j h. let lt : j < k = omega (arith, long) in omega (arith, ints, get_or-take k through j (pos 0) lt, n.near j lt) }

  pub leading_relaxed : (old : List ℤ) (leg : ℤ) (new : List ℤ) → Relaxed (length (take k through)) old (take k through) leg new → Relaxed k old through leg new
  leading_relaxed old leg new r =
      let long = length-take-le k through fits in
      record {
        near = record { near = λ j h. r.near.near j (omega (arith, long)) };
        is = λ j h. r.is j (omega (arith, long)) ∙ ap (λ v. int_min (get_or old j (pos 0)) (leg +ℤ v)) (get_or-take k through j (pos 0) h);
      }

  pub leading_far : (leg : ℤ) → TooFar (length (take k through)) (take k through) leg → TooFar k through leg
  leading_far leg t =
      let long = length-take-le k through fits in
      let lt : t.column < k = omega (arith, long, t.within) in
      record { column = t.column; within = lt; far = omega (arith, ints, t.far, get_or-take k through t.column (pos 0) lt) }

-- the table after i of its rows went by column m
pub record Passing (k m : ℕ) (old now : List (List ℤ)) (i : ℕ) : Type 0 where
  pub near : NearRows k now
  pub done : (q : ℕ) → q < i → Relaxed k (get_or old q []) (get_or old m []) (entry old q m) (get_or now q [])
  pub rest : (q : ℕ) → q < k → i ≤ q → get_or now q [] ≡ get_or old q []
  pub diagonal : (q : ℕ) → q < i → pos 0 ≤ℤ entry now q q

module _ (k m : ℕ) (old now : List (List ℤ)) (i : ℕ) (hi : i < k) (hl : k ≤ length now) (inv : Passing k m old now i) (leg : ℤ) (is : leg ≡ entry now i m) where
  pub passing_more : (new : List ℤ) → Relaxed k (get_or now i []) (get_or old m []) leg new → pos 0 ≤ℤ entry (set now i new) i i → Passing k m old (set now i new) (i + 1)
  passing_more new r diagonal =
      let lt : i < length now = omega arith in
      let here = rw is at r in
      record {
        near = record { near = λ q h. elim (ℕ_discrete q i) [ yes e ↦ rw (e, get_or-set_same) here.near | no e ↦ rw get_or-set_other (inv.near.near q h) ] };
        done = λ q h.
            elim (ℕ_discrete q i) [
              | yes e ↦ rw (e, get_or-set_same) (subst (λ s. Relaxed k s (get_or old m []) (get_or s m (pos 0)) new) (inv.rest i hi (omega arith)) here)
              | no e ↦ rw get_or-set_other (inv.done q (omega arith))
            ];
        rest = λ q h g. let e : ¬ (q ≡ i) = omega arith in rw get_or-set_other (inv.rest q h (omega arith));
        diagonal = λ q h. elim (ℕ_discrete q i) [ yes e ↦ rw e diagonal | no e ↦ rw get_or-set_other (inv.diagonal q (omega arith)) ];
      }

  pub too_far : m < k → TooFar k (get_or old m []) leg → NoValues k old
  too_far hm far =
      record {
        none = λ x vs o.
            let e : entry now i m ≡ entry old i m = ap (λ r. get_or r m (pos 0)) (inv.rest i hi (omega arith)) in
            omega (arith, ints, e, is, far.far, o.link i m hi hm, o.link m far.column hm far.within, vs.high i hi, vs.low far.column far.within);
      }

  pub below_zero : (new : List ℤ) → m < k → Relaxed k (get_or now i []) (get_or old m []) leg new → entry (set now i new) i i <ℤ pos 0 → NoValues k old
  below_zero new hm r negative =
      record {
        none = λ x vs o.
            let lt : i < length now = omega arith in
            let same : entry (set now i new) i i ≡ get_or new i (pos 0) = rw get_or-set_same in
            let leg-is : entry now i m ≡ entry old i m = ap (λ r. get_or r m (pos 0)) (inv.rest i hi (omega arith)) in
            let zero_is : entry now i i ≡ entry old i i = ap (λ r. get_or r i (pos 0)) (inv.rest i hi (omega arith)) in
            omega (arith, ints, clamps, is, leg-is, zero_is, same, r.is i hi, o.link i m hi hm, o.link m i hm hi, o.link i i hi hi);
      }

pub passing_all : (k m : ℕ) (old now : List (List ℤ)) (i : ℕ) → k ≤ i → Passing k m old now i → Stepped k m (entry old) (entry now)
passing_all k m old now i h inv = record { is = λ a b ha hb. (inv.done a (omega arith)).is b hb; diagonal = λ a ha. inv.diagonal a (omega arith) }
