-- The loop that cuts every column by the total.
use Rattle.std.proofs.Common.{◌≡◌, ℕ, zero, suc, ◌+◌, ◌<◌, ◌≤◌, true, List, length, set, ℤ, ◌+ℤ◌, ◌-ℤ◌, ◌≤ℤ◌, Ok, Err, Result, is_ok, sym, refl, subst, inr, ⊎_elim, arith, get_or-set_other, get_or-set_same}
use Rattle.std.specs.Int.{int_max, int_min}
use Rattle.std.proofs.lemmas.Int.{ints, clamps}
use Rattle.std.proofs.lemmas.Bool.{cases_eq}
use Rattle.rules.specs.declared.window.Window.{Window}
use Rattle.rules.specs.declared.fault.Fault.{Fault}
use Rattle.rules.specs.declared.verdict.Verdict.{Verdict}
use Rattle.rules.specs.declared.verdict.Verdict.TheVariants.{Open, Void}
use Rattle.rules.specs.Plans.{window_at, all_lawful, NoPlan}
use Rattle.rules.specs.Meaning.{Narrowed, Opened}
use Rattle.rules.proofs.Windows.{lies_at}
use Rattle.rules.proofs.Failing.{takes}
use Rattle.differences.specs.Tables.{obeys, distance_meaning}
use Rattle.differences.proofs.Obeying.{obeys_each}
use Rattle.differences.specs.Ends.{first_at, last_at}
use Rattle.totals.specs.Adding.{sum_to}
use Rattle.totals.specs.Cuts.{column_at, Columns, greatest_with, least_with, low_of, high_of, CutAt, Met, EndsObey, Meeting, Trims, TotalOutcome}

-- the first j columns are cut
pub record Cutting (d : ℕ → ℕ → ℤ) (ms : List Window) (t : ℕ) (ss : List ℕ) (low high : ℤ) (ws : List Window) (j : ℕ) : Type 0 where
  pub done : (i : ℕ) → i < j → CutAt d ms t ss i low high (window_at ws i)

pub cutting_more : (d : ℕ → ℕ → ℤ) (ms : List Window) (t : ℕ) (ss : List ℕ) (low high : ℤ) (ws : List Window) (j : ℕ) (w : Window) → j < length ws
    → Cutting d ms t ss low high ws j → CutAt d ms t ss j low high w → Cutting d ms t ss low high (set ws j w) (j + 1)
cutting_more d ms t ss low high ws j w l c here =
    record {
      done = λ i h. ⊎_elim
          (λ e. subst (λ (n : ℕ). CutAt d ms t ss n low high (window_at (set ws j w) n)) (sym e) (subst (CutAt d ms t ss j low high) (sym (get_or-set_same ws j w _ l)) here))
          (λ ne. subst (CutAt d ms t ss i low high) (sym (get_or-set_other ws j i w _ ne)) (c.done i (omega arith)))
          (cases_eq i j);
    }

sum_under : (n : ℕ) (f g : ℕ → ℤ) → ((a : ℕ) → a < n → f a ≤ℤ g a) → sum_to n f ≤ℤ sum_to n g
sum_under zero f g h = omega (arith, ints)
sum_under (suc n) f g h = let r = sum_under n f g (λ a l. h a (omega arith)) in let e = h n (omega arith) in omega (arith, ints)

-- where the ends obey the distances, a column at its last value leaves the most, and at its first the least
module _ (k : ℕ) (d : ℕ → ℕ → ℤ) (ms : List Window) (t : ℕ) (ss : List ℕ) (ends : EndsObey k d ms) (there : Columns k ss) (j : ℕ) (hj : j < k) where
  pub most_at_last : (low high : ℤ) → low ≤ℤ high → high ≤ℤ high_of ms t ss → low ≤ℤ greatest_with d ms ss j (last_at ms j)
  most_at_last low high le h =
      let m = sum_under (length ss) (λ a. last_at ms (column_at ss a)) (λ a. int_min (last_at ms (column_at ss a)) (last_at ms j +ℤ d j (column_at ss a)))
      (λ a l. let o = ends.lasts.link j (column_at ss a) hj (there.there a l) in omega (arith, ints, clamps)) in
      omega (arith, ints, clamps)

  pub least_at_first : (low high : ℤ) → low ≤ℤ high → low_of ms t ss ≤ℤ low → least_with d ms ss j (first_at ms j) ≤ℤ high
  least_at_first low high le h =
      let m = sum_under (length ss) (λ a. int_max (first_at ms (column_at ss a)) (first_at ms j -ℤ d (column_at ss a) j)) (λ a. first_at ms (column_at ss a))
      (λ a l. let o = ends.firsts.link (column_at ss a) j (there.there a l) hj in omega (arith, ints, clamps)) in
      omega (arith, ints, clamps)

pub cutting_all : (d : ℕ → ℕ → ℤ) (ms : List Window) (t : ℕ) (ss : List ℕ) (low high : ℤ) (ws : List Window) (j k : ℕ) → k ≤ j → low ≤ℤ high → low ≡ low_of ms t ss → high ≡ high_of ms t ss
    → Cutting d ms t ss low high ws j → Met k d t ss ms ws
cutting_all d ms t ss low high ws j k h le p q c =
    record {
      some = omega (arith, ints);
      each = λ i l. subst (λ (x : ℤ). CutAt d ms t ss i x (high_of ms t ss) (window_at ws i)) p (subst (λ (x : ℤ). CutAt d ms t ss i low x (window_at ws i)) q (c.done i (omega arith)));
    }

-- the ends that the distances leave obey them, since each is in a plan that does
pub ends_obey : (k : ℕ) (d : ℕ → ℕ → ℤ) (vs ms : List Window) → length ms ≡ k → Trims k d vs ms → EndsObey k d ms
ends_obey k d vs ms long T =
    record {
      firsts = record {
        link = λ i j hi hj.
            let e = T.ends.first_end i (omega arith) in
            let o = (obeys_each k d e.plan e.allowed).link i j hi hj in
            let p = lies_at e.plan ms j e.there (omega arith) in
            let q = e.at in
            omega (arith, ints, p.low);
      };
      lasts = record {
        link = λ i j hi hj.
            let e = T.ends.last_end j (omega arith) in
            let o = (obeys_each k d e.plan e.allowed).link i j hi hj in
            let p = lies_at e.plan ms i e.there (omega arith) in
            let q = e.at in
            omega (arith, ints, p.high);
      };
    }

-- the trim by the distances, as the total takes it on
pub opened_trims : (k : ℕ) (d : ℕ → ℕ → ℤ) (vs ms : List Window) → Opened (distance_meaning k d) vs ms → Trims k d vs ms
opened_trims k d vs ms o = record { lawful_after = o.lawful_after; within = o.shrinks; keeps = o.keeps; ends = o.ends refl }

-- windows in the number of the distances are not refused
pub never_refused : (k : ℕ) (d : ℕ → ℕ → ℤ) (vs ms : List Window) (f : Fault) → all_lawful vs ≡ true → length vs ≡ k → Narrowed (distance_meaning k d) vs (Err f) ms → ⊥
never_refused k d vs ms f h l n = let z : ◌≡◌ {A = ℕ} 0 1 = cc (n.because, takes k vs h l) in omega arith

module _ (k n : ℕ) (d : ℕ → ℕ → ℤ) (t : ℕ) (ss : List ℕ) (vs ms ws : List Window) (n-is : n ≡ k) (long-ws : length ws ≡ k) (o : Opened (distance_meaning k d) vs ms) where
  pub met_outcome : (v : Verdict) → Meeting n d t ss ms vs v ws → TotalOutcome k d t ss vs v ws
  met_outcome Open m = (ms, record { trims = opened_trims k d vs ms o; long = long-ws; met = subst (λ (j : ℕ). Met j d t ss ms ws) n-is m })
  met_outcome Void m = (inr (ms, opened_trims k d vs ms o, m.0), m.1)

-- the trim of a copy us of the windows vs
module _ (n : ℕ) (d : ℕ → ℕ → ℤ) (us vs ms : List Window) (copy : us ≡ vs) (width : length vs ≡ n) where
  at_copy : (r : Result Verdict Fault) → Narrowed (distance_meaning n d) us r ms → Narrowed (distance_meaning (length vs) d) vs r ms
  at_copy r h = subst (λ (j : ℕ). Narrowed (distance_meaning j d) vs r ms) (sym width) (subst (λ (xs : List Window). Narrowed (distance_meaning n d) xs r ms) copy h)

  pub copy_open : (r : Result Verdict Fault) → r ≡ Ok Open → Narrowed (distance_meaning n d) us r ms → Opened (distance_meaning (length vs) d) vs ms
  copy_open r e h = at_copy (Ok Open) (subst (λ (x : Result Verdict Fault). Narrowed (distance_meaning n d) us x ms) e h)

  pub copy_void : (r : Result Verdict Fault) → r ≡ Ok Void → Narrowed (distance_meaning n d) us r ms → NoPlan (obeys (length vs) d) vs
  copy_void r e h = (at_copy (Ok Void) (subst (λ (x : Result Verdict Fault). Narrowed (distance_meaning n d) us x ms) e h)).none

  pub copy_taken : (r : Result Verdict Fault) → all_lawful vs ≡ true → Narrowed (distance_meaning n d) us r ms → is_ok r ≡ true
  copy_taken (Ok v) lawful h = refl
  copy_taken (Err f) lawful h = absurd (never_refused (length vs) d vs ms f lawful refl (at_copy (Err f) h))
