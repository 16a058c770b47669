-- The refusal of a total, its summands and links says what its words say.
use Rattle.std.proofs.Common.{◌≡◌, ℕ, suc, ◌+◌, ◌<◌, ◌≤◌, Bool, true, false, cond, not, ◌&&◌, eqb, leb, ◌⊎◌, List, [], ◌∷◌, length, get_or, Some, None, Err, Option, Result, sym, refl, ap, ◌∙◌, subst, ⊎_elim, add-one, arith, MatchOption}
use Rattle.std.specs.Option.{option_map}
use Rattle.std.specs.List.{ContainsAt}
use Rattle.std.proofs.lemmas.Bool.{leb-true, ltb-true, and_parts, and_from, cases_Bool, eqb-false, not-true, le-leb, lt-ltb, le-ltb}
use Rattle.rules.specs.declared.fault.Fault.{Fault}
use Rattle.rules.specs.declared.fault.Fault.TheVariants.{ColumnCount, NoColumn, ListLength, ColumnTwice, OutOfRange}
use Rattle.rules.specs.Refusals.{first_failing, Finds, unless, at_first, counted, Counted}
use Rattle.rules.proofs.Failing.{finds_first, none_found, some_none, uncounted}
use Rattle.differences.specs.declared.link.Link.{Link}
use Rattle.differences.specs.Links.{links_refusal, present, two_columns, bounded, All}
use Rattle.rings.specs.Rings.{RingsAnswer, RingsChecked}
use Rattle.rings.proofs.Entries.{no_link}
use Rattle.totals.specs.Sums.{there, first_again, some_few, sum_refusal, AllThere, Distinct}
use Rattle.totals.specs.Cuts.{Columns, column_at}
use Rattle.totals.specs.Linked.{other_columns, link_entry, first_entry, first_absent, first_repeated, fits, linked_refusal, Named, Fits, LinkedJudged, no_width, absent, link_absent, wrong_length, twice, link_twice, unbounded, accepted, LinkedChecked}
use Rattle.totals.proofs.Again.{finds_again, found_again}
use Rattle.totals.proofs.Again as again

no_false : ◌≡◌ {A = Bool} false true → ⊥
no_false e = let z : ◌≡◌ {A = ℕ} 0 1 = cc in omega arith

pub first_within : {X : Type 0} (test : X → Bool) (xs : List X) (i : ℕ) → first_failing test xs ≡ Some i → i < length xs
first_within test xs i e = (subst (Finds test xs) e (finds_first test xs)).within

-- the outcomes of the tests of entries that are not refused
record Passed (b : Bool) (o p : Option ℕ) (c : Bool) (q r s : Option ℕ) : Type 0 where
  wide : b ≡ true
  entries : o ≡ None
  links : p ≡ None
  fit : c ≡ true
  again : q ≡ None
  others : r ≡ None
  bounds : s ≡ None

module _ (ss : List ℕ) where
  -- the refusal, by the outcomes of its tests
  abbrev refused : Bool → Option ℕ → Option ℕ → Bool → Option ℕ → Option ℕ → Option ℕ → Option Fault
  refused b o p c q r s =
      unless b ColumnCount
      (at_first NoColumn (first_entry ss o p)
      (unless c ListLength (at_first ColumnTwice (first_entry ss q r) (at_first OutOfRange (option_map (link_entry ss) s) None))))

  passed : (b : Bool) (o p : Option ℕ) (c : Bool) (q r s : Option ℕ) → refused b o p c q r s ≡ None → Passed b o p c q r s
  passed true None None true None None None e = record { wide = refl; entries = refl; links = refl; fit = refl; again = refl; others = refl; bounds = refl }
  passed true None None true None None (Some i) e = absurd (some_none e)
  passed true None None true None (Some i) s e = absurd (some_none e)
  passed true None None true (Some i) r s e = absurd (some_none e)
  passed true None None false q r s e = absurd (some_none e)
  passed true None (Some i) c q r s e = absurd (some_none e)
  passed true (Some i) p c q r s e = absurd (some_none e)
  passed false o p c q r s e = absurd (some_none e)

module _ (k t : ℕ) (ss : List ℕ) (ls : List Link) where
  -- the refusals from each test on
  abbrev from_bounds : Option Fault
  from_bounds = at_first OutOfRange (option_map (link_entry ss) (first_failing bounded ls)) None

  abbrev from_repeated : Option Fault
  from_repeated = at_first ColumnTwice (first_repeated t ss ls) from_bounds

  abbrev from_length : Option Fault
  from_length = unless (fits ss ls) ListLength from_repeated

  judge_bounds : Named k t ss ls → Fits ss ls → Distinct (t ∷ ss) → All (other_columns t) ls → (o : Option ℕ) → Finds bounded ls o → LinkedJudged k t ss ls (at_first OutOfRange (option_map (link_entry ss) o) None)
  judge_bounds n f d s None g = accepted n f d s g
  judge_bounds n f d s (Some j) g = unbounded j n f d s g

  judge_repeated : Named k t ss ls → Fits ss ls → (o : Option ℕ) → again.Finds [] (t ∷ ss) o → (p : Option ℕ) → Finds (other_columns t) ls p → LinkedJudged k t ss ls (at_first ColumnTwice (first_entry ss o p) from_bounds)
  judge_repeated n f (Some i) a p s = twice i n f (found_again (t ∷ ss) i a)
  judge_repeated n f None a (Some j) s = link_twice j n f a.first s
  judge_repeated n f None a None s = judge_bounds n f a.first s (first_failing bounded ls) (finds_first bounded ls)

  few_fit : fits ss ls ≡ true → Fits ss ls
  few_fit e =
      let p = and_parts (some_few (length ss)) (leb (length ls) 256) e in
      let q = and_parts (leb 1 (length ss)) (leb (length ss) 31) p.0 in
      record { some = leb-true _ _ q.0; few = leb-true _ _ q.1; links = leb-true _ _ p.1 }

  fit_few : Fits ss ls → fits ss ls ≡ true
  fit_few f = and_from _ _ (and_from _ _ (le-leb _ _ f.some) (le-leb _ _ f.few)) (le-leb _ _ f.links)

  judge_length : Named k t ss ls → (b : Bool) → fits ss ls ≡ b → LinkedJudged k t ss ls (unless b ListLength from_repeated)
  judge_length n true e = judge_repeated n (few_fit e) (first_again [] (t ∷ ss)) (finds_again [] (t ∷ ss)) (first_failing (other_columns t) ls) (finds_first (other_columns t) ls)
  judge_length n false e = wrong_length n (λ f. no_false (sym e ∙ fit_few f))

  judge_absent : Counted k → (o : Option ℕ) → Finds (there k) (t ∷ ss) o → (p : Option ℕ) → Finds (present k) ls p → LinkedJudged k t ss ls (at_first NoColumn (first_entry ss o p) from_length)
  judge_absent w (Some i) a p b = absent i w a
  judge_absent w None a (Some j) b = link_absent j w a b
  judge_absent w None a None b = judge_length (record { columns = w; entries = a; links = b }) (fits ss ls) refl

  wide : counted k ≡ true → Counted k
  wide e = let p = and_parts (leb 1 k) (leb k 32) e in (leb-true _ _ p.0, leb-true _ _ p.1)

  is_wide : Counted k → counted k ≡ true
  is_wide w = and_from _ _ (le-leb _ _ w.0) (le-leb _ _ w.1)

  judge_width : (b : Bool) → counted k ≡ b → LinkedJudged k t ss ls (unless b ColumnCount (at_first NoColumn (first_absent k t ss ls) from_length))
  judge_width true e = judge_absent (wide e) (first_failing (there k) (t ∷ ss)) (finds_first (there k) (t ∷ ss)) (first_failing (present k) ls) (finds_first (present k) ls)
  judge_width false e = no_width (λ w. no_false (sym e ∙ is_wide w))

  pub linked_judged : LinkedJudged k t ss ls (linked_refusal k t ss ls)
  unfolding linked_refusal
  linked_judged = judge_width (counted k) refl

  -- the first entry that names a column that is not there, test by test
  pub total_absent : k ≤ t → first_absent k t ss ls ≡ Some 0
  unfolding first_failing
  total_absent h = ap (λ b. first_entry ss (cond b (option_map suc (first_failing (there k) ss)) (Some 0)) (first_failing (present k) ls)) (le-ltb t k h)

  entries_there : t < k → (o : Option ℕ) → first_failing (there k) ss ≡ o → first_failing (there k) (t ∷ ss) ≡ option_map suc o
  unfolding first_failing
  entries_there h o e = ap (λ b. cond b (option_map suc (first_failing (there k) ss)) (Some 0)) (lt-ltb t k h) ∙ ap (option_map suc) e

  pub summand_absent : t < k → (i : ℕ) → first_failing (there k) ss ≡ Some i → first_absent k t ss ls ≡ Some (i + 1)
  summand_absent h i e = ap (λ (o : Option ℕ). first_entry ss o (first_failing (present k) ls)) (entries_there h (Some i) e) ∙ ap Some (sym (add-one i))

  pub link_absent_at : t < k → first_failing (there k) ss ≡ None → (o : Option ℕ) → first_failing (present k) ls ≡ o → first_absent k t ss ls ≡ option_map (link_entry ss) o
  link_absent_at h e o f = ap (λ (p : Option ℕ). first_entry ss p (first_failing (present k) ls)) (entries_there h None e) ∙ ap (option_map (link_entry ss)) f

  -- the first that names a column again
  pub summand_again : (i : ℕ) → first_again (t ∷ []) ss ≡ Some i → first_repeated t ss ls ≡ Some (i + 1)
  unfolding first_again
  summand_again i e = ap (λ (o : Option ℕ). first_entry ss (option_map suc o) (first_failing (other_columns t) ls)) e ∙ ap Some (sym (add-one i))

  pub link_again : first_again (t ∷ []) ss ≡ None → (o : Option ℕ) → first_failing (other_columns t) ls ≡ o → first_repeated t ss ls ≡ option_map (link_entry ss) o
  unfolding first_again
  link_again e o f = ap (λ (p : Option ℕ). first_entry ss (option_map suc p) (first_failing (other_columns t) ls)) e ∙ ap (option_map (link_entry ss)) f

  no_entry : (o p : Option ℕ) → first_entry ss o p ≡ None → o ≡ None
  no_entry None p e = refl
  no_entry (Some i) p e = absurd (some_none e)

  entries_at : first_absent k t ss ls ≡ None → AllThere k (t ∷ ss)
  entries_at e = subst (Finds (there k) (t ∷ ss)) (no_entry (first_failing (there k) (t ∷ ss)) (first_failing (present k) ls) e) (finds_first (there k) (t ∷ ss))

  -- columns that are there, as the search for the first that is not says it
  pub total_there : Counted k → first_absent k t ss ls ≡ None → t < 32
  total_there w e = let h = ltb-true t k (entries_at e 0 0 (omega arith) (omega arith)) in omega arith

  pub summands_there : Counted k → first_absent k t ss ls ≡ None → Columns 32 ss
  summands_there w e = record { there = λ a l. let h = ltb-true (column_at ss a) k (entries_at e (suc a) 0 (omega arith) (omega arith)) in omega arith }

  -- the refusal, test by test
  pub by_width : (Counted k → ⊥) → linked_refusal k t ss ls ≡ Some ColumnCount
  unfolding linked_refusal
  by_width none = ap (λ b. unless b ColumnCount (at_first NoColumn (first_absent k t ss ls) from_length)) (uncounted k none)

  pub by_absent : Counted k → (o : Option ℕ) → first_absent k t ss ls ≡ o → linked_refusal k t ss ls ≡ at_first NoColumn o from_length
  unfolding linked_refusal
  by_absent w o e = ap (λ b. unless b ColumnCount (at_first NoColumn (first_absent k t ss ls) from_length)) (is_wide w) ∙ ap (λ (p : Option ℕ). at_first NoColumn p from_length) e

  by_fit : Counted k → first_absent k t ss ls ≡ None → (b : Bool) → fits ss ls ≡ b → linked_refusal k t ss ls ≡ unless b ListLength from_repeated
  by_fit w e b f = by_absent w None e ∙ ap (λ c. unless c ListLength from_repeated) f

  pub by_length : Counted k → first_absent k t ss ls ≡ None
      → (length ss < 1) ⊎ (((1 ≤ length ss) × (31 < length ss)) ⊎ ((1 ≤ length ss) × (length ss ≤ 31) × (256 < length ls))) → linked_refusal k t ss ls ≡ Some ListLength
  by_length w e h =
      ⊎_elim
      (λ f.
      let g = few_fit f in
      absurd (⊎_elim (λ a. omega (arith, g.some)) (⊎_elim (λ (a, b). omega (arith, g.few)) (λ (a, b, c). omega (arith, g.links))) h))
      (by_fit w e false)
      (cases_Bool (fits ss ls))

  pub by_repeated : Counted k → first_absent k t ss ls ≡ None → Fits ss ls → (o : Option ℕ) → first_repeated t ss ls ≡ o → linked_refusal k t ss ls ≡ at_first ColumnTwice o from_bounds
  by_repeated w e f o g = by_fit w e true (fit_few f) ∙ ap (λ (p : Option ℕ). at_first ColumnTwice p from_bounds) g

  pub by_bounds : Counted k → first_absent k t ss ls ≡ None → Fits ss ls → first_repeated t ss ls ≡ None → (o : Option ℕ) → first_failing bounded ls ≡ o
      → linked_refusal k t ss ls ≡ at_first OutOfRange (option_map (link_entry ss) o) None
  by_bounds w e f g o h = by_repeated w e f None g ∙ ap (λ (p : Option ℕ). at_first OutOfRange (option_map (link_entry ss) p) None) h

  -- what is refused of the entries is answered
  pub checked_entries : (f : Fault) → linked_refusal k t ss ls ≡ Some f → LinkedChecked k t ss ls (Err f)
  checked_entries f e = subst (λ (o : Option Fault). MatchOption o (RingsAnswer k ls ss (Err f)) (λ g. ◌≡◌ {A = Result (Unit {0}) Fault} (Err f) (Err g))) (sym e) refl

  module _ (none : linked_refusal k t ss ls ≡ None) where
    all_passed : Passed (counted k) (first_failing (there k) (t ∷ ss)) (first_failing (present k) ls) (fits ss ls) (first_again [] (t ∷ ss)) (first_failing (other_columns t) ls) (first_failing bounded ls)
    unfolding linked_refusal
    all_passed = passed ss _ _ _ _ _ _ _ none

    -- the sum is not refused
    pub sum_accepted : sum_refusal k t ss ≡ None
    unfolding sum_refusal
    sum_accepted =
        let p = all_passed in
        let few = (and_parts (some_few (length ss)) (leb (length ls) 256) p.fit).0 in
        ap (λ b. unless b ColumnCount (at_first NoColumn (first_failing (there k) (t ∷ ss)) (unless (some_few (length ss)) ListLength (at_first ColumnTwice (first_again [] (t ∷ ss)) None)))) p.wide
        ∙ ap (λ (o : Option ℕ). at_first NoColumn o (unless (some_few (length ss)) ListLength (at_first ColumnTwice (first_again [] (t ∷ ss)) None))) p.entries
        ∙ ap (λ b. unless b ListLength (at_first ColumnTwice (first_again [] (t ∷ ss)) None)) few
        ∙ ap (λ (o : Option ℕ). at_first ColumnTwice o None) p.again

    each_other : All (other_columns t) ls
    each_other = subst (Finds (other_columns t) ls) all_passed.others (finds_first (other_columns t) ls)

    two_each : All two_columns ls
    two_each q l low high = (and_parts (two_columns (get_or ls q l)) (not (eqb (get_or ls q l).left t) && not (eqb (get_or ls q l).right t)) (each_other q l low high)).0

    -- the links are not refused
    pub links_accepted : links_refusal k ls ≡ None
    unfolding links_refusal
    links_accepted =
        let p = all_passed in
        let fit = (and_parts (some_few (length ss)) (leb (length ls) 256) p.fit).1 in
        let two = none_found two_columns ls two_each in
        ap (λ b. unless b ColumnCount (at_first NoColumn (first_failing (present k) ls) (unless (leb (length ls) 256) ListLength (at_first ColumnTwice (first_failing two_columns ls) (at_first OutOfRange (first_failing bounded ls) None))))) p.wide
        ∙ ap (λ (o : Option ℕ). at_first NoColumn o (unless (leb (length ls) 256) ListLength (at_first ColumnTwice (first_failing two_columns ls) (at_first OutOfRange (first_failing bounded ls) None)))) p.links
        ∙ ap (λ b. unless b ListLength (at_first ColumnTwice (first_failing two_columns ls) (at_first OutOfRange (first_failing bounded ls) None))) fit
        ∙ ap (λ (o : Option ℕ). at_first ColumnTwice o (at_first OutOfRange (first_failing bounded ls) None)) two
        ∙ ap (λ (o : Option ℕ). at_first OutOfRange o None) p.bounds

    -- no link names the total
    other_at : (l : Link) → ContainsAt ls l → (not (eqb l.left t) && not (eqb l.right t)) ≡ true
    other_at l (n, h, f) = subst (λ (m : Link). (not (eqb m.left t) && not (eqb m.right t)) ≡ true) (f no_link) (and_parts (two_columns (get_or ls n no_link)) _ (each_other n no_link (omega arith) h)).1

    pub left_other : (l : Link) → ContainsAt ls l → l.left ≡ t → ⊥
    left_other l h = eqb-false _ _ (not-true _ (and_parts (not (eqb l.left t)) (not (eqb l.right t)) (other_at l h)).0)

    pub right_other : (l : Link) → ContainsAt ls l → l.right ≡ t → ⊥
    right_other l h = eqb-false _ _ (not-true _ (and_parts (not (eqb l.left t)) (not (eqb l.right t)) (other_at l h)).1)

    -- then the rings are judged
    pub checked_rings : (r : Result (Unit {0}) Fault) → RingsChecked k ls ss r → LinkedChecked k t ss ls r
    checked_rings r c =
        subst (λ (o : Option Fault). MatchOption o (RingsAnswer k ls ss r) (λ f. r ≡ Err f)) (sym none)
        (subst (λ (o : Option Fault). MatchOption o (RingsAnswer k ls ss r) (λ f. r ≡ Err f)) links_accepted c)
