-- The table of links allows the plans of values that keep them.
use Rattle.std.proofs.Common.{◌≡◌, ℕ, zero, suc, ◌<◌, Bool, true, false, List, [], ◌∷◌, length, ℤ, pos, Some, None, Ok, Option, sym, refl, subst, arith}
use Rattle.std.proofs.lemmas.List.{get_or-replicate, length-replicate}
use Rattle.std.proofs.lemmas.Int.{ints}
use Rattle.std.proofs.lemmas.Bool.{and_parts, and_from, both_ways}
use Rattle.rules.specs.Plans.{window_at, value_at, everything, lies, NoPlan}
use Rattle.rules.proofs.Windows.{Holds, lies_at, plan_of, plan_at, plan_lies}
use Rattle.differences.specs.declared.link.Link.{Link}
use Rattle.differences.specs.declared.distances.Distances.{Distances}
use Rattle.differences.specs.Tables.{entry, Obeys, obeys}
use Rattle.differences.specs.Closing.{Values, link_at, KeepsLinks, Entered, ClosedFrom, NoValues}
use Rattle.differences.specs.Links.{linked, all_linked, links_refusal}
use Rattle.differences.specs.Distances.{distance_of, all_values, allowed_by, width_of, Tabled, Made}
use Rattle.differences.proofs.Obeying.{test_true, true_test, obeys_each, each_obeys}
use Rattle.differences.proofs.Cutting.{plan_obeys}
use Rattle.differences.proofs.Reaching.{stretched, stretched_obeys, stretched_values, stretched_reaches}
use Rattle.differences.proofs.Tabling.{distance_at, table_closed}

linked_at : (ls : List Link) (x : List ℤ) → all_linked ls x ≡ true → (q : ℕ) → q < length ls → linked (link_at ls q) x ≡ true
linked_at [] x h q l = absurd (omega arith)
linked_at (l ∷ ls) x h zero b = (and_parts (linked l x) (all_linked ls x) h).0
linked_at (l ∷ ls) x h (suc q) b = linked_at ls x (and_parts (linked l x) (all_linked ls x) h).1 q (omega arith)

at_linked : (ls : List Link) (x : List ℤ) → ((q : ℕ) → q < length ls → linked (link_at ls q) x ≡ true) → all_linked ls x ≡ true
at_linked [] x h = refl
at_linked (l ∷ ls) x h = and_from _ _ (h 0 (omega arith)) (at_linked ls x (λ q b. h (suc q) (omega arith)))

pub linked_keeps : (ls : List Link) (x : List ℤ) → all_linked ls x ≡ true → KeepsLinks ls (length ls) (value_at x)
linked_keeps ls x h = record { link = λ q l. test_true _ _ (linked_at ls x h q l) }

pub keeps_linked : (ls : List Link) (x : List ℤ) → KeepsLinks ls (length ls) (value_at x) → all_linked ls x ≡ true
keeps_linked ls x g = at_linked ls x (λ q l. true_test _ _ (g.link q l))

-- plans of values
pub any_window : (k i : ℕ) → i < k → window_at (all_values k) i ≡ everything
any_window k i h = get_or-replicate k i everything (record { first = pos 0; last = pos 0 }) h

pub plan_values : (k : ℕ) (x : List ℤ) → lies x (all_values k) ≡ true → Values k (value_at x)
plan_values k x there =
    let held : (i : ℕ) → i < k → Holds everything (value_at x i) = λ i h. rw (any_window k i h) at (lies_at x (all_values k) i there (omega (arith, length-replicate k everything))) in
    record { low = λ i h. (held i h).low; high = λ i h. (held i h).high }

pub values_plan : (k : ℕ) (f : ℕ → ℤ) → Values k f → lies (plan_of k f) (all_values k) ≡ true
values_plan k f vs = plan_lies k f (all_values k) (length-replicate k everything) (λ i h. rw (any_window k i h) (record { low = vs.low i h; high = vs.high i h }))

same_tests : (a b : Bool) → (a ≡ true → b ≡ true) → (b ≡ true → a ≡ true) → a ≡ b
same_tests true b f g = sym (f refl)
same_tests false true f g = g refl
same_tests false false f g = refl

obeys_same : (k : ℕ) (d e : ℕ → ℕ → ℤ) (x : ℕ → ℤ) → ((i j : ℕ) → i < k → j < k → d i j ≡ e i j) → Obeys k d x → Obeys k e x
obeys_same k d e x s o = record { link = λ i j hi hj. omega (arith, ints, o.link i j hi hj, s i j hi hj) }

-- rows that were filled from the links
module _ (k : ℕ) (ls : List Link) (filled : List (List ℤ)) (entered : Entered k ls (length ls) filled) where
  -- no values obey them
  pub no_plan : NoValues k filled → NoPlan (all_linked ls) (all_values k)
  no_plan none x keeps there = none.none (value_at x) (plan_values k x there) (entered.on (value_at x) (plan_values k x there) (linked_keeps ls x keeps))

  -- they were closed, and are the rows of a table
  module _ (t : Distances) (closed : ClosedFrom t.columns filled t.rows) (width : t.columns ≡ k) (taken : links_refusal k ls ≡ None) where
    on : (x : List ℤ) → lies x (all_values k) ≡ true → all_linked ls x ≡ true → obeys t.columns (distance_of t) x ≡ true
    on x there keeps =
        each_obeys t.columns (distance_of t) x
        (obeys_same t.columns (entry t.rows) (distance_of t) (value_at x) (distance_at t)
        (closed.on (value_at x) (rw width (entered.on (value_at x) (plan_values k x there) (linked_keeps ls x keeps)))))

    back : (x : List ℤ) → obeys t.columns (distance_of t) x ≡ true → all_linked ls x ≡ true
    back x o =
        keeps_linked ls x
        (entered.back (value_at x)
        (rw width at (closed.back (value_at x) (obeys_same t.columns (distance_of t) (entry t.rows) (value_at x) (λ i j hi hj. sym (distance_at t i j hi hj)) (obeys_each t.columns (distance_of t) x o)))))

    pub table_of : Tabled k ls t
    table_of =
        record {
          accepted = taken;
          width = width;
          same = λ x there. same_tests (all_linked ls x) (obeys t.columns (distance_of t) x) (on x there) (back x);
          exact = λ i j hi hj.
              let w = t.columns in
              let d = distance_of t in
              let cl = table_closed t in
              let wi : i < w = omega arith in
              let wj : j < w = omega arith in
              let f = stretched w d cl i j wi wj in
              record {
                most = λ x keeps there. (obeys_each w d x (on x there keeps)).link i j wi wj;
                plan = plan_of w f;
                allowed = back (plan_of w f) (plan_obeys w d f (stretched_obeys w d cl i j wi wj));
                there = subst (λ (n : ℕ). lies (plan_of w f) (all_values n) ≡ true) width (values_plan w f (stretched_values w d cl i j wi wj));
                reached = omega (arith, ints, plan_at w f i wi, plan_at w f j wj, stretched_reaches w d cl i j wi wj);
              };
        }

-- what is known of what came of the links, whether it is a table or none
pub record Says (k : ℕ) (ls : List Link) (o : Option Distances) : Type 0 where
  pub accepted : links_refusal k ls ≡ None
  pub wide : width_of k o ≡ k
  pub same : (x : List ℤ) → lies x (all_values k) ≡ true → all_linked ls x ≡ allowed_by o x

pub made_says : (k : ℕ) (ls : List Link) (o : Option Distances) → Made k ls (Ok o) → Says k ls o
made_says k ls None m = record { accepted = m.0; wide = refl; same = λ x there. same_tests (all_linked ls x) false (λ h. absurd (m.1 x h there)) (λ h. absurd (both_ways false refl h)) }
made_says k ls (Some t) m = record { accepted = m.accepted; wide = m.width; same = m.same }
