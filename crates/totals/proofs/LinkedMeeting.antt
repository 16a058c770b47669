-- A sum with links over the closed table of its links.
use Rattle.std.proofs.Common.{◌≡◌, ℕ, ◌<◌, true, List, length, get_or, ℤ, ◌+ℤ◌, ◌≤ℤ◌, None, Option, sym, ◌∙◌, subst, arith}
use Rattle.std.specs.List.{ContainsAt}
use Rattle.std.proofs.lemmas.List.{get_or_default}
use Rattle.std.proofs.lemmas.Int.{ints}
use Rattle.std.proofs.lemmas.Bool.{and_parts, and_from}
use Rattle.rules.specs.Plans.{value_at, lies}
use Rattle.rules.proofs.Windows.{plan_of, plan_at}
use Rattle.differences.specs.declared.link.Link.{Link}
use Rattle.differences.specs.declared.distances.Distances.{Distances}
use Rattle.differences.specs.Tables.{Obeys, Closed, obeys}
use Rattle.differences.specs.Closing.{link_at}
use Rattle.differences.specs.Links.{all_linked}
use Rattle.differences.specs.Distances.{distance_of, all_values}
use Rattle.differences.proofs.Linking.{linked_keeps, keeps_linked, values_plan}
use Rattle.differences.proofs.Obeying.{obeys_each, each_obeys}
use Rattle.differences.proofs.Tabling.{table_closed}
use Rattle.rings.specs.Rings.{RingPlace, TiedSummand}
use Rattle.rings.proofs.Entries.{no_link}
use Rattle.rings.proofs.Offered.{taken}
use Rattle.rings.proofs.Ways.{Links, WaysOf, some_ways}
use Rattle.totals.specs.Cuts.{column_at}
use Rattle.totals.specs.Sums.{sums}
use Rattle.totals.specs.Linked.{linked_sums, linked_refusal}
use Rattle.totals.proofs.Adds.{sums-total, total-sums}
use Rattle.totals.proofs.Judging.{sum_taken}
use Rattle.totals.proofs.LinkedJudging.{sum_accepted, links_accepted, left_other, right_other}
use Rattle.totals.proofs.Plain.{total_apart, same_place, summands_apart}
use Rattle.totals.proofs.Supporting.{Valued, Meets}

-- an entry of a list stands in it
has_at : {X : Type 0} (xs : List X) (i : ℕ) (d : X) → i < length xs → ContainsAt xs (get_or xs i d)
has_at xs i d h = (i, h, λ e. get_or_default xs i e d h)

-- the test of links and the links one by one
links_of : (ls : List Link) (x : List ℤ) → all_linked ls x ≡ true → Links ls (value_at x)
links_of ls x e l (n, h, f) = subst (λ (m : Link). value_at x m.left ≤ℤ (value_at x m.right +ℤ m.bound)) (f no_link) ((linked_keeps ls x e).link n h)

of_links : (ls : List Link) (x : List ℤ) → Links ls (value_at x) → all_linked ls x ≡ true
of_links ls x g = keeps_linked ls x (record { link = λ q l. g (link_at ls q) (has_at ls q no_link l) })

-- a sum with links that were not refused, with no ring below 0 and no tied summands, and the table that says of values what the
-- links say
module _ (k t : ℕ) (ss : List ℕ) (ls : List Link) (none : linked_refusal k t ss ls ≡ None) (ring : RingPlace k ls None)
    (untied : (p : ℕ) → p < k → TiedSummand k ls ss p → ⊥) (T : Distances) (width : T.columns ≡ k)
    (same : (x : List ℤ) → lies x (all_values k) ≡ true → all_linked ls x ≡ obeys T.columns (distance_of T) x) where
  abbrev d : ℕ → ℕ → ℤ
  d = distance_of T

  same_test : (x : List ℤ) → lies x (all_values k) ≡ true → all_linked ls x ≡ obeys k d x
  same_test x there = subst (λ (n : ℕ). all_linked ls x ≡ obeys n d x) width (same x there)

  left_there : (l : Link) → ContainsAt ls l → l.left < k
  left_there = (taken k ls (links_accepted k t ss ls none)).good.left

  right_there : (l : Link) → ContainsAt ls l → l.right < k
  right_there = (taken k ls (links_accepted k t ss ls none)).good.right

  -- values that are equal at each column that a link names
  links_over : (x y : ℕ → ℤ) → ((i : ℕ) → i < k → (i ≡ t → ⊥) → y i ≡ x i) → Links ls x → Links ls y
  links_over x y e g l h =
      let a = e l.left (left_there l h) (left_other k t ss ls none l h) in
      let b = e l.right (right_there l h) (right_other k t ss ls none l h) in
      let m = g l h in
      omega (arith, ints)

  obeys_over : (x y : ℕ → ℤ) → ((i : ℕ) → i < k → y i ≡ x i) → Obeys k d x → Obeys k d y
  obeys_over x y e o = record { link = λ i j hi hj. let a = e i hi in let b = e j hj in let l = o.link i j hi hj in omega (arith, ints) }

  module _ (f : ℕ → ℤ) (v : Valued k f) where
    lies_there : lies (plan_of k f) (all_values k) ≡ true
    lies_there = values_plan k f (record { low = v.low; high = v.high })

    -- among values, to keep the links is to obey the table
    obeys_links : Obeys k d f → Links ls f
    obeys_links o =
        let x = plan_of k f in
        let p : Obeys k d (value_at x) = obeys_over f (value_at x) (plan_at k f) o in
        links_over (value_at x) f (λ i h ne. sym (plan_at k f i h)) (links_of ls x (same_test x lies_there ∙ each_obeys k d x p))

    links_obey : Links ls f → Obeys k d f
    links_obey g =
        let x = plan_of k f in
        let e = of_links ls x (links_over f (value_at x) (λ i h ne. plan_at k f i h) g) in
        obeys_over (value_at x) f (λ i h. sym (plan_at k f i h)) (obeys_each k d x (sym (same_test x lies_there) ∙ e))

  pub ways_of : (w : ℕ → ℕ → Option ℤ) × WaysOf k ls w
  ways_of =
      let known = taken k ls (links_accepted k t ss ls none) in
      some_ways k ls (λ l h. (right_there l h, left_there l h)) ring known.two

  pub linked_meets : Meets k d ways_of.0 t ss (linked_sums t ss ls)
  linked_meets =
      let sum = sum_taken k t ss (sum_accepted k t ss ls none) in
      let W = ways_of.1 in
      record {
        closed = subst (λ (n : ℕ). Closed n d) width (table_closed T);
        ways = W.ways;
        summands =
            record {
              column = sum.columns.there;
              apart = λ a b la lb ne u v e f z.
                  let there-a = sum.columns.there a la in
                  let there-b = sum.columns.there b lb in
                  let ne-columns = same_place ss (summands_apart t ss sum.distinct) a b la lb ne in
                  untied (column_at ss a) there-a
                  (record {
                    other = column_at ss b;
                    there = there-b;
                    named = has_at ss a 0 la;
                    also = has_at ss b 0 lb;
                    apart = ne-columns;
                    tied = W.tied (column_at ss a) (column_at ss b) there-a there-b ne-columns u v e f z;
                  });
            };
        there = sum.total;
        apart = total_apart t ss sum.distinct;
        keeps = λ x v o. W.on x (obeys_links x v o);
        loose = λ x y e v o. links_obey y v (links_over x y e (W.back x o));
        allows = λ x long v o e. and_from _ _ (of_links ls x (obeys_links (value_at x) v o)) (total-sums t ss x e);
        obeys = λ x long v a. links_obey (value_at x) v (links_of ls x (and_parts (all_linked ls x) (sums t ss x) a).0);
        totals = λ x a. sums-total t ss x (and_parts (all_linked ls x) (sums t ss x) a).1;
      }
