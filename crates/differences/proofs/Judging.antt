-- The refusal of links says what its words say.
use Rattle.std.proofs.Common.{◌≡◌, ℕ, ◌<◌, ◌≤◌, Bool, true, false, ◌&&◌, leb, ◌⊎◌, List, [], length, ℤ, pos, negsuc, Some, None, Option, refl, arith}
use lib.Signed.{le_z}
use Rattle.std.proofs.lemmas.Bool.{leb-true, leb-false, ltb-true, eqb-false, not-true, and_parts}
use Rattle.std.proofs.lemmas.Bool.Decides.{nat_tests}
use Rattle.std.proofs.lemmas.Int.{ints}
use Rattle.rules.specs.declared.fault.Fault.{Fault}
use Rattle.rules.specs.declared.fault.Fault.TheVariants.{ColumnCount, NoColumn, ListLength, ColumnTwice, OutOfRange}
use Rattle.rules.specs.Refusals.{first_failing, Finds, unless, at_first, counted, Counted}
use Rattle.rules.proofs.Failing.{finds_first, some_none}
use Rattle.differences.specs.declared.link.Link.{Link}
use Rattle.differences.specs.Tables.{Near}
use Rattle.differences.specs.Closing.{GoodLinks, link_at}
use Rattle.differences.specs.Links.{All, present, two_columns, bounded, links_refusal, LinksJudged, not_wide, absent, too_many, one_column, unbounded, accepted}

abbrev no_link : Link
no_link = record { left = 0; right = 0; bound = pos 0 }

near_from : (z : ℤ) → (le_z (negsuc 59999999) z && le_z z (pos 60000000)) ≡ true → Near z
near_from z h = (grind (arith, ints), grind (arith, ints))

-- what is known of links that are not refused
pub record Accepted (k : ℕ) (ls : List Link) : Type 0 where
  pub some : 1 ≤ k
  pub few : k ≤ 32
  pub fit : length ls ≤ 256
  pub good : GoodLinks k ls

module _ (k : ℕ) (ls : List Link) where
  -- the refusals from each test on
  abbrev from_bounds : Option Fault
  from_bounds = at_first OutOfRange (first_failing bounded ls) None

  abbrev from_columns : Option Fault
  from_columns = at_first ColumnTwice (first_failing two_columns ls) from_bounds

  abbrev from_count : Option Fault
  from_count = unless (leb (length ls) 256) ListLength from_columns

  judge_bounds : Counted k → All (present k) ls → length ls ≤ 256 → All two_columns ls → (o : Option ℕ) → Finds bounded ls o → LinksJudged k ls (at_first OutOfRange o None)
  judge_bounds w p n t None f = accepted w p n t f
  judge_bounds w p n t (Some i) f = unbounded i w p n t f

  judge_columns : Counted k → All (present k) ls → length ls ≤ 256 → (o : Option ℕ) → Finds two_columns ls o → LinksJudged k ls (at_first ColumnTwice o from_bounds)
  judge_columns w p n None f = judge_bounds w p n f (first_failing bounded ls) (finds_first bounded ls)
  judge_columns w p n (Some i) f = one_column i w p n f

  judge_count : Counted k → All (present k) ls → (b : Bool) → leb (length ls) 256 ≡ b → LinksJudged k ls (unless b ListLength from_columns)
  judge_count w p true e = judge_columns w p (leb-true _ _ e) (first_failing two_columns ls) (finds_first two_columns ls)
  judge_count w p false e = too_many w p (leb-false _ _ e)

  judge_present : Counted k → (o : Option ℕ) → Finds (present k) ls o → LinksJudged k ls (at_first NoColumn o from_count)
  judge_present w None f = judge_count w f (leb (length ls) 256) refl
  judge_present w (Some i) f = absent i w f

  judge_width : (b : Bool) → counted k ≡ b → LinksJudged k ls (unless b ColumnCount (at_first NoColumn (first_failing (present k) ls) from_count))
  judge_width true e = judge_present (leb-true _ _ (and_parts _ _ e).0, leb-true _ _ (and_parts _ _ e).1) (first_failing (present k) ls) (finds_first (present k) ls)
  judge_width false e = not_wide (λ w. let some = w.0 in let few = w.1 in grind (arith, nat_tests))

  -- the refusal says what its words say
  pub links_judged : LinksJudged k ls (links_refusal k ls)
  unfolding links_refusal
  links_judged = judge_width (counted k) refl

  -- a number of columns outside 1 to 32 is refused first
  pub no_columns : (k < 1) ⊎ ((1 ≤ k) × (32 < k)) → links_refusal k ls ≡ Some ColumnCount
  unfolding links_refusal
  no_columns h = let e : counted k ≡ false = grind (arith, nat_tests) in rw e

  good_links : All (present k) ls → All two_columns ls → All bounded ls → GoodLinks k ls
  good_links p t b =
      record {
        left = λ q h. ltb-true _ _ (and_parts _ _ (p q no_link (omega arith) h)).0;
        right = λ q h. ltb-true _ _ (and_parts _ _ (p q no_link (omega arith) h)).1;
        two = λ q h. eqb-false _ _ (not-true _ (t q no_link (omega arith) h));
        near = λ q h. near_from (link_at ls q).bound (b q no_link (omega arith) h);
      }

  judged_accepted : (o : Option Fault) → o ≡ None → LinksJudged k ls o → Accepted k ls
  judged_accepted _ e (not_wide n) = absurd (some_none e)
  judged_accepted _ e (absent i w f) = absurd (some_none e)
  judged_accepted _ e (too_many w p n) = absurd (some_none e)
  judged_accepted _ e (one_column i w p n f) = absurd (some_none e)
  judged_accepted _ e (unbounded i w p n t f) = absurd (some_none e)
  judged_accepted _ e (accepted w p n t f) = record { some = w.0; few = w.1; fit = n; good = good_links p t f }

  pub links_taken : links_refusal k ls ≡ None → Accepted k ls
  links_taken e = judged_accepted (links_refusal k ls) e links_judged

-- no links on one column are not refused
pub fresh_taken : links_refusal 1 [] ≡ None
unfolding links_refusal first_failing
fresh_taken = refl
