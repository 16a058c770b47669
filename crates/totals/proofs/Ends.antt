-- The numbers that the search for an end works on: the total it reaches is that of plans with one column fixed.
use Rattle.std.proofs.Common.{◌≡◌, ℕ, zero, suc, ◌<◌, true, List, length, ℤ, pos, ◌-ℤ◌, ◌≤ℤ◌, sym, refl, ap, ◌∙◌, subst, arith, w32, w64, to_z, of_z}
use Rattle.std.specs.Int.{int_max, int_min}
use Rattle.std.proofs.lemmas.Int.{ints, clamps}
use Rattle.rules.specs.declared.window.Window.{Window}
use Rattle.rules.specs.Plans.{all_lawful, window_at}
use Rattle.rules.proofs.Windows.{Ends, lawful_at, lawful_ends}
use Rattle.differences.specs.Tables.{Closed}
use Rattle.differences.specs.Ends.{first_at, last_at}
use Rattle.totals.specs.Adding.{sum_to}
use Rattle.totals.specs.declared.reaching.Limit.{Limit}
use Rattle.totals.specs.Reaching.{number_at, limit_at, limits, limited, reach_to, reach_of, Least, Value, Reachable, Moderate}
use Rattle.totals.proofs.LimitRows.{limits_long, limits_at}
use Rattle.totals.specs.Cuts.{column_at, Columns, Tops, Bottoms, greatest_with, least_with, FirstLeft, LastLeft, CutAt}

-- what the window of a column is between
pub ends_at : (ws : List Window) (i : ℕ) → all_lawful ws ≡ true → i < length ws → Ends (window_at ws i)
ends_at ws i lawful here = lawful_ends (window_at ws i) (lawful_at ws i lawful here)

-- the total of n summands that are each at most g
reach_is : (ls : List Limit) (v : ℤ) (g : ℕ → ℤ) (n : ℕ) → ((a : ℕ) → a < n → limited (limit_at ls a) v ≡ g a) → reach_to ls v n ≡ sum_to n g
reach_is ls v g zero h = refl
reach_is ls v g (suc n) h = let r = reach_is ls v g n (λ a l. h a (omega arith)) in let e = h n (omega arith) in omega (arith, ints)

-- with every sign turned, it is the least total
reach_turned : (ls : List Limit) (v : ℤ) (g : ℕ → ℤ) (n : ℕ) → ((a : ℕ) → a < n → limited (limit_at ls a) v ≡ pos 0 -ℤ g a) → reach_to ls v n ≡ pos 0 -ℤ sum_to n g
reach_turned ls v g zero h = refl
reach_turned ls v g (suc n) h = let r = reach_turned ls v g n (λ a l. h a (omega arith)) in let e = h n (omega arith) in omega (arith, ints)

-- the limits that column j leaves each summand, upward and, with every sign turned, downward
pub record Upward (d : ℕ → ℕ → ℤ) (ws : List Window) (ss : List ℕ) (j : ℕ) (ls : List Limit) : Type 0 where
  pub long : length ls ≡ length ss
  pub top : (a : ℕ) → a < length ss → (limit_at ls a).top ≡ last_at ws (column_at ss a)
  pub way : (a : ℕ) → a < length ss → (limit_at ls a).way ≡ d j (column_at ss a)

pub record Downward (d : ℕ → ℕ → ℤ) (ws : List Window) (ss : List ℕ) (j : ℕ) (ls : List Limit) : Type 0 where
  pub long : length ls ≡ length ss
  pub top : (a : ℕ) → a < length ss → (limit_at ls a).top ≡ pos 0 -ℤ first_at ws (column_at ss a)
  pub way : (a : ℕ) → a < length ss → (limit_at ls a).way ≡ d (column_at ss a) j

-- the limits of two rows
module _ (d : ℕ → ℕ → ℤ) (ws : List Window) (ss : List ℕ) (j : ℕ) (tops ways : List ℤ) (long : length ways ≡ length ss) where
  pub upward_row : Tops ws ss tops → ((a : ℕ) → a < length ss → number_at ways a ≡ d j (column_at ss a)) → Upward d ws ss j (limits tops ways)
  upward_row t is =
      let even : length ways ≡ length tops = long ∙ sym t.long in
      record {
        long = limits_long tops ways even ∙ t.long;
        top = λ a l. ap (λ (m : Limit). m.top) (limits_at tops ways a even (omega (arith, t.long))) ∙ t.each a l;
        way = λ a l. ap (λ (m : Limit). m.way) (limits_at tops ways a even (omega (arith, t.long))) ∙ is a l;
      }

  pub downward_row : Bottoms ws ss tops → ((a : ℕ) → a < length ss → number_at ways a ≡ d (column_at ss a) j) → Downward d ws ss j (limits tops ways)
  downward_row t is =
      let even : length ways ≡ length tops = long ∙ sym t.long in
      record {
        long = limits_long tops ways even ∙ t.long;
        top = λ a l. ap (λ (m : Limit). m.top) (limits_at tops ways a even (omega (arith, t.long))) ∙ t.each a l;
        way = λ a l. ap (λ (m : Limit). m.way) (limits_at tops ways a even (omega (arith, t.long))) ∙ is a l;
      }

module _ (d : ℕ → ℕ → ℤ) (ws : List Window) (ss : List ℕ) (j : ℕ) (ls : List Limit)
    (closed : Closed (length ws) d) (lawful : all_lawful ws ≡ true) (there : Columns (length ws) ss) (here : j < length ws) where
  module _ (U : Upward d ws ss j ls) where
    pub up_reachable : Reachable ls
    up_reachable =
        record {
          top = λ a h. let l : a < length ss = omega (arith, U.long) in let e = ends_at ws (column_at ss a) lawful (there.there a l) in let q = U.top a l in (omega (arith, ints, e.low, e.order, e.high), omega (arith, ints, e.high));
          way = λ a h. let l : a < length ss = omega (arith, U.long) in let c = closed.near j (column_at ss a) here (there.there a l) in let q = U.way a l in (omega (arith, ints), omega (arith, ints));
        }

    pub up_reaches : (v : ℤ) → reach_of ls v ≡ greatest_with d ws ss j v
    up_reaches v =
        rw U.long
        (reach_is ls v _ (length ss) (λ a l. let p = U.top a l in let q = U.way a l in omega (arith, ints, clamps)))

    -- in the numbers of the code
    pub up_most : (low low' v v' : ℤ) → low ≤ℤ greatest_with d ws ss j v → v' ≡ v → low' ≡ low → low' ≤ℤ reach_of ls v'
    up_most low low' v v' h e f = let r = up_reaches v in let g = ap (reach_of ls) e in omega (arith, ints)

    pub first_left : (low low' from v v' : ℤ) → Least ls low' from v' → low' ≡ low → from ≡ first_at ws j → v ≡ v' → FirstLeft d ws ss j low v
    first_left low low' from v v' m' p q s =
        let m : Least ls low (first_at ws j) v =
        subst (λ (x : ℤ). Least ls x (first_at ws j) v) p (subst (λ (x : ℤ). Least ls low' x v) q (subst (λ (x : ℤ). Least ls low' from x) (sym s) m')) in
        record {
          late = m.late;
          reached = let e = up_reaches v in let r = m.reached in omega (arith, ints);
          before = λ u l h. let e = up_reaches u in let r = m.first u l h in omega (arith, ints);
        }

  module _ (U : Downward d ws ss j ls) where
    pub down_reachable : Reachable ls
    down_reachable =
        record {
          top = λ a h. let l : a < length ss = omega (arith, U.long) in let e = ends_at ws (column_at ss a) lawful (there.there a l) in let q = U.top a l in (omega (arith, ints, e.low, e.order, e.high), omega (arith, ints, e.low));
          way = λ a h. let l : a < length ss = omega (arith, U.long) in let c = closed.near (column_at ss a) j (there.there a l) here in let q = U.way a l in (omega (arith, ints), omega (arith, ints));
        }

    pub down_reaches : (v : ℤ) → reach_of ls (pos 0 -ℤ v) ≡ pos 0 -ℤ least_with d ws ss j v
    down_reaches v =
        rw U.long
        (reach_turned ls (pos 0 -ℤ v) _ (length ss) (λ a l. let p = U.top a l in let q = U.way a l in omega (arith, ints, clamps)))

    -- in the numbers of the code
    pub down_most : (high high' v v' : ℤ) → least_with d ws ss j v ≤ℤ high → v' ≡ pos 0 -ℤ v → high' ≡ pos 0 -ℤ high → high' ≤ℤ reach_of ls v'
    down_most high high' v v' h e f = let r = down_reaches v in let g = ap (reach_of ls) e in omega (arith, ints)

    pub last_left : (high high' from v v' : ℤ) → Least ls high' from v' → high' ≡ pos 0 -ℤ high → from ≡ pos 0 -ℤ last_at ws j → v' ≡ pos 0 -ℤ v → LastLeft d ws ss j high v
    last_left high high' from v v' m' p q s =
        let m : Least ls (pos 0 -ℤ high) (pos 0 -ℤ last_at ws j) (pos 0 -ℤ v) =
        subst (λ (x : ℤ). Least ls x (pos 0 -ℤ last_at ws j) (pos 0 -ℤ v)) p (subst (λ (x : ℤ). Least ls high' x (pos 0 -ℤ v)) q (subst (λ (x : ℤ). Least ls high' from x) s m')) in
        record {
          early = let l = m.late in omega (arith, ints);
          kept = let e = down_reaches v in let r = m.reached in omega (arith, ints);
          after = λ u l h. let e = down_reaches u in let r = m.first (pos 0 -ℤ u) (omega (arith, ints)) (omega (arith, ints)) in omega (arith, ints);
        }

-- what is left of a column, in the numbers of the code
pub cut_total : (d : ℕ → ℕ → ℤ) (ws : List Window) (t : ℕ) (ss : List ℕ) (j : ℕ) (low high low' high' : ℤ) → j ≡ t → low' ≡ low → high' ≡ high → CutAt d ws t ss j low high (record { first = low'; last = high' })
cut_total d ws t ss j low high low' high' e p q = record { at_total = λ _ i. record { first = p i; last = q i }; cut = λ ne. absurd (ne e) }

pub cut_other : (d : ℕ → ℕ → ℤ) (ws : List Window) (t : ℕ) (ss : List ℕ) (j : ℕ) (low high first first' last last' low' high' : ℤ) → (j ≡ t → ⊥)
    → FirstLeft d ws ss j low' first → LastLeft d ws ss j high' last → low' ≡ low → high' ≡ high → first' ≡ first → last' ≡ last → CutAt d ws t ss j low high (record { first = first'; last = last' })
cut_other d ws t ss j low high first first' last last' low' high' ne f l lo hi p q =
    record {
      at_total = λ e. absurd (ne e);
      cut = λ _. record {
        first = subst (λ (x : ℤ). FirstLeft d ws ss j low x) (sym p) (subst (λ (x : ℤ). FirstLeft d ws ss j x first) lo f);
        last = subst (λ (x : ℤ). LastLeft d ws ss j high x) (sym q) (subst (λ (x : ℤ). LastLeft d ws ss j x last) hi l);
      };
    }

-- the larger of two numbers, and the smaller, in the numbers of the code
pub larger_is : (r r' x y a b : ℤ) → r ≡ int_max x y → r' ≡ r → x ≡ a → y ≡ b → r' ≡ int_max b a
larger_is r r' x y a b e s p q = omega (arith, ints, clamps)

pub smaller_is : (r r' x y a b : ℤ) → r ≡ int_min x y → r' ≡ r → x ≡ a → y ≡ b → r' ≡ int_min b a
smaller_is r r' x y a b e s p q = omega (arith, ints, clamps)

-- a range inside a window of values
pub range_values : (w : Window) (lo hi a b : ℤ) → Ends w → lo ≤ℤ hi → lo ≡ int_max w.first a → hi ≡ int_min w.last b → Value lo × Value hi
range_values w lo hi a b e le p q =
    ((omega (arith, ints, clamps, e.low), omega (arith, ints, clamps, e.high)), (omega (arith, ints, clamps, e.low), omega (arith, ints, clamps, e.high)))

-- a sum that is taken as it is, and an end of a window, through the code's casts
pub taken_as : (r a : ℤ) → Moderate r → r ≡ a → to_z w64 (of_z w64 r) ≡ a
taken_as r a m e = omega (arith, ints)

pub end_as : (r v : ℤ) → Value v → r ≡ to_z w32 (of_z w32 v) → to_z w64 (of_z w64 r) ≡ v
end_as r v h e = omega (arith, ints)
