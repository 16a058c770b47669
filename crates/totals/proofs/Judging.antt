-- The refusal of a total and its summands says what its words say.
use Rattle.std.proofs.Common.{◌≡◌, ℕ, suc, ◌+◌, ◌<◌, ◌≤◌, Bool, true, false, cond, ltb, leb, ◌⊎◌, List, [], ◌∷◌, length, Some, None, Option, sym, refl, ap, ◌∙◌, subst, ⊎_elim, add-one, arith}
use Rattle.std.specs.Option.{option_map}
use Rattle.std.proofs.lemmas.Bool.{leb-true, ltb-true, and_parts}
use Rattle.std.proofs.lemmas.Bool.Decides.{nat_tests}
use Rattle.rules.specs.declared.fault.Fault.{Fault}
use Rattle.rules.specs.declared.fault.Fault.TheVariants.{ColumnCount, NoColumn, ListLength, ColumnTwice}
use Rattle.rules.specs.Refusals.{first_failing, Finds, unless, at_first, counted, Counted}
use Rattle.rules.proofs.Failing.{finds_first, some_none, uncounted}
use Rattle.totals.specs.Sums.{there, first_again, some_few, sum_refusal, AllThere, Distinct, SumJudged, no_width, absent, wrong_length, twice, accepted}
use Rattle.totals.specs.Cuts.{Columns}
use Rattle.totals.proofs.Again.{finds_again, found_again}
use Rattle.totals.proofs.Again as again

-- what is known of a total and summands that are not refused
pub record Taken (k t : ℕ) (ss : List ℕ) : Type 0 where
  pub some : 1 ≤ k
  pub few : k ≤ 32
  pub total : t < k
  pub columns : Columns k ss
  pub any : 1 ≤ length ss
  pub fit : length ss ≤ 31
  pub distinct : Distinct (t ∷ ss)

module _ (k t : ℕ) (ss : List ℕ) where
  -- the refusals from each test on
  abbrev from_again : Option Fault
  from_again = at_first ColumnTwice (first_again [] (t ∷ ss)) None

  abbrev from_length : Option Fault
  from_length = unless (some_few (length ss)) ListLength from_again

  abbrev from_columns : Option Fault
  from_columns = at_first NoColumn (first_failing (there k) (t ∷ ss)) from_length

  counts : (b : Bool) → counted k ≡ b → b ≡ true → Counted k
  counts b e h = let p = and_parts (leb 1 k) (leb k 32) (e ∙ h) in (leb-true _ _ p.0, leb-true _ _ p.1)

  judge_again : Counted k → AllThere k (t ∷ ss) → 1 ≤ length ss → length ss ≤ 31 → (o : Option ℕ) → again.Finds [] (t ∷ ss) o → SumJudged k t ss (at_first ColumnTwice o None)
  judge_again w h a b None f = accepted w h a b f.first
  judge_again w h a b (Some i) f = twice i w h a b (found_again (t ∷ ss) i f)

  judge_length : Counted k → AllThere k (t ∷ ss) → (b : Bool) → some_few (length ss) ≡ b → SumJudged k t ss (unless b ListLength from_again)
  judge_length w h true e =
      let p = and_parts (leb 1 (length ss)) (leb (length ss) 31) e in
      judge_again w h (leb-true _ _ p.0) (leb-true _ _ p.1) (first_again [] (t ∷ ss)) (finds_again [] (t ∷ ss))
  judge_length w h false e = wrong_length w h (λ p. let some = p.0 in let few = p.1 in grind (arith, nat_tests))

  judge_columns : Counted k → (o : Option ℕ) → Finds (there k) (t ∷ ss) o → SumJudged k t ss (at_first NoColumn o from_length)
  judge_columns w None f = judge_length w f (some_few (length ss)) refl
  judge_columns w (Some i) f = absent i w f

  judge_width : (b : Bool) → counted k ≡ b → SumJudged k t ss (unless b ColumnCount from_columns)
  judge_width true e = judge_columns (counts true e refl) (first_failing (there k) (t ∷ ss)) (finds_first (there k) (t ∷ ss))
  judge_width false e = no_width (λ w. let some = w.0 in let few = w.1 in grind (arith, nat_tests))

  pub sum_judged : SumJudged k t ss (sum_refusal k t ss)
  unfolding sum_refusal
  sum_judged = judge_width (counted k) refl

  there_parts : AllThere k (t ∷ ss) → (t < k) × Columns k ss
  there_parts h = (ltb-true _ _ (h 0 0 (omega arith) (omega arith)), record { there = λ a l. ltb-true _ _ (h (suc a) 0 (omega arith) (omega arith)) })

  judged_taken : (o : Option Fault) → o ≡ None → SumJudged k t ss o → Taken k t ss
  judged_taken _ e (no_width n) = absurd (some_none e)
  judged_taken _ e (absent i w f) = absurd (some_none e)
  judged_taken _ e (wrong_length w h n) = absurd (some_none e)
  judged_taken _ e (twice i w h a b f) = absurd (some_none e)
  judged_taken _ e (accepted w h a b d) =
      let (lt, cs) = there_parts h in
      record {
        some = w.0;
        few = w.1;
        total = lt;
        columns = cs;
        any = a;
        fit = b;
        distinct = d;
      }

  pub sum_taken : sum_refusal k t ss ≡ None → Taken k t ss
  sum_taken e = judged_taken (sum_refusal k t ss) e sum_judged

  -- the refusal, test by test
  pub no_columns : (Counted k → ⊥) → sum_refusal k t ss ≡ Some ColumnCount
  unfolding sum_refusal
  no_columns none = rw (uncounted k none)

  columns_next : Counted k → sum_refusal k t ss ≡ from_columns
  unfolding sum_refusal
  columns_next w = let some = w.0 in let few = w.1 in let e : counted k ≡ true = grind (arith, nat_tests) in ap (λ b. unless b ColumnCount from_columns) e

  pub no_total : Counted k → k ≤ t → sum_refusal k t ss ≡ Some (NoColumn 0)
  unfolding first_failing
  no_total w h =
      let e : ltb t k ≡ false = grind (arith, nat_tests) in
      columns_next w ∙ ap (λ b. at_first NoColumn (cond b (option_map suc (first_failing (there k) ss)) (Some 0)) from_length) e

  found_next : Counted k → t < k → (o : Option ℕ) → first_failing (there k) ss ≡ o → sum_refusal k t ss ≡ at_first NoColumn (option_map suc o) from_length
  unfolding first_failing
  found_next w h o q =
      let e : ltb t k ≡ true = grind (arith, nat_tests) in
      columns_next w ∙ ap (λ b. at_first NoColumn (cond b (option_map suc (first_failing (there k) ss)) (Some 0)) from_length) e
      ∙ ap (λ (p : Option ℕ). at_first NoColumn (option_map suc p) from_length) q

  pub no_summand : (i : ℕ) → Counted k → t < k → first_failing (there k) ss ≡ Some i → sum_refusal k t ss ≡ Some (NoColumn (i + 1))
  no_summand i w h q = found_next w h (Some i) q ∙ ap (λ n. Some (NoColumn n)) (sym (add-one i))

  pub not_few : Counted k → t < k → first_failing (there k) ss ≡ None → (length ss < 1) ⊎ ((1 ≤ length ss) × (31 < length ss)) → sum_refusal k t ss ≡ Some ListLength
  not_few w h q n =
      let e : some_few (length ss) ≡ false = ⊎_elim (λ z. grind (arith, nat_tests)) (λ z. let (a, b) = z in grind (arith, nat_tests)) n in
      found_next w h None q ∙ ap (λ b. unless b ListLength from_again) e

  again_next : Counted k → t < k → first_failing (there k) ss ≡ None → 1 ≤ length ss → length ss ≤ 31 → (o : Option ℕ) → first_again (t ∷ []) ss ≡ o
      → sum_refusal k t ss ≡ at_first ColumnTwice (option_map suc o) None
  unfolding first_again
  again_next w h q a b o z =
      let e : some_few (length ss) ≡ true = grind (arith, nat_tests) in
      found_next w h None q ∙ ap (λ b. unless b ListLength from_again) e ∙ ap (λ (p : Option ℕ). at_first ColumnTwice (option_map suc p) None) z

  pub named_twice : (i : ℕ) → Counted k → t < k → first_failing (there k) ss ≡ None → 1 ≤ length ss → length ss ≤ 31 → first_again (t ∷ []) ss ≡ Some i
      → sum_refusal k t ss ≡ Some (ColumnTwice (i + 1))
  named_twice i w h q a b z = again_next w h q a b (Some i) z ∙ ap (λ n. Some (ColumnTwice n)) (sym (add-one i))

  pub none_refused : Counted k → t < k → first_failing (there k) ss ≡ None → 1 ≤ length ss → length ss ≤ 31 → first_again (t ∷ []) ss ≡ None → sum_refusal k t ss ≡ None
  none_refused w h q a b z = again_next w h q a b None z

pub within : (k : ℕ) (ss : List ℕ) (i : ℕ) → first_failing (there k) ss ≡ Some i → i < length ss
within k ss i e = (subst (Finds (there k) ss) e (finds_first (there k) ss)).within

pub again_within : (t : ℕ) (ss : List ℕ) (i : ℕ) → first_again (t ∷ []) ss ≡ Some i → i < length ss
again_within t ss i e = (subst (again.Finds (t ∷ []) ss) e (finds_again (t ∷ []) ss)).within

-- summands that are there, as the search for the first that is not says it
pub all_there : (k : ℕ) (ss : List ℕ) → k ≤ 32 → first_failing (there k) ss ≡ None → Columns 32 ss
all_there k ss h e = let f = subst (Finds (there k) ss) e (finds_first (there k) ss) in record { there = λ a l. let lt = ltb-true _ _ (f a 0 (omega arith) l) in omega arith }
