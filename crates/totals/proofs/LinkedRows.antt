-- Rows that hold a sum with links.
use Rattle.std.proofs.Common.{◌≡◌, ℕ, ◌<◌, ◌≤◌, Bool, true, false, List, length, ℤ, is_ok, Some, None, Ok, Err, Option, Result, sym, refl, ap, ◌∙◌, subst, arith, MatchOption}
use Rattle.std.proofs.lemmas.Bool.{and_parts, both_ways}
use Rattle.rules.specs.declared.fault.Fault.{Fault}
use Rattle.rules.specs.declared.verdict.Verdict.{Verdict}
use Rattle.rules.specs.declared.verdict.Verdict.TheVariants.{Open, Void}
use Rattle.rules.specs.declared.window.Window.{Window}
use Rattle.rules.specs.Plans.{lies, all_lawful}
use Rattle.rules.specs.Refusals.{answer, window_refusal}
use Rattle.rules.specs.Meaning.{Meaning, tight_rule, Narrowed}
use Rattle.rules.proofs.Failing.{answer_ok, taken, some_none}
use Rattle.rules.proofs.Setting.{none_if_ok, fresh_narrowed, taken_by, set_narrowed}
use Rattle.differences.specs.declared.link.Link.{Link}
use Rattle.differences.specs.declared.distances.Distances.{Distances}
use Rattle.differences.specs.Tables.{Closed}
use Rattle.differences.specs.Links.{all_linked, links_refusal}
use Rattle.differences.specs.Distances.{distance_of, all_values, allowed_by, width_of}
use Rattle.differences.proofs.Narrowing.{lawful-values}
use Rattle.differences.proofs.Tabling.{table_closed}
use Rattle.rings.specs.Rings.{RingPlace, TiedSummand, RingsJudged, ring_below, tied, neither, RingsAnswer}
use Rattle.totals.specs.declared.terms.Terms.{Terms}
use Rattle.totals.specs.declared.linked.LinkedSum.{LinkedSum}
use Rattle.totals.specs.Cuts.{Columns, TotalOutcome}
use Rattle.totals.specs.Sums.{Kind, sums, sum_refusal}
use Rattle.totals.specs.Linked.{linked_sums, linked_refusal, linked_scope, LinkedChecked}
use Rattle.totals.specs.LinkedRows.{kept_links, linked_kind, linked_meaning}
use Rattle.totals.specs.Terms.{row_summands, row_refusal, row_width, row_meaning, kind_scope, Holds}
use Rattle.totals.proofs.LinkedJudging.{links_accepted, sum_accepted}
use Rattle.totals.proofs.LinkedMeeting.{linked_meets}
use Rattle.totals.proofs.Rows.{row_taken, held_means, width_means}
use Rattle.totals.proofs.Supporting.{total_narrowed}

ok_err : {f : Fault} → ◌≡◌ {A = Result (Unit {0}) Fault} (Ok tt) (Err f) → ⊥
ok_err e = let z : ◌≡◌ {A = ℕ} 0 1 = cc in omega arith

-- a sum with links that was accepted
pub record Sound (k t : ℕ) (ss : List ℕ) (ls : List Link) : Type 0 where
  pub entries : linked_refusal k t ss ls ≡ None
  pub rings : RingPlace k ls None
  pub untied : (p : ℕ) → p < k → TiedSummand k ls ss p → ⊥

module _ (k t : ℕ) (ss : List ℕ) (ls : List Link) where
  -- what was checked with the answer `Ok`
  accepted_by : (o : Option Fault) → MatchOption o (RingsAnswer k ls ss (Ok tt)) (λ f. ◌≡◌ {A = Result (Unit {0}) Fault} (Ok tt) (Err f)) → (o ≡ None) × RingsAnswer k ls ss (Ok tt)
  accepted_by None a = (refl, a)
  accepted_by (Some f) e = absurd (ok_err e)

  pub entries_taken : LinkedChecked k t ss ls (Ok tt) → linked_refusal k t ss ls ≡ None
  entries_taken c = (accepted_by (linked_refusal k t ss ls) c).0

  sound_rings : (p : Option Fault) → p ≡ None → RingsJudged k ls ss p → linked_refusal k t ss ls ≡ None → Sound k t ss ls
  sound_rings _ e (ring_below i r) none = absurd (some_none e)
  sound_rings _ e (tied p r h s f) none = absurd (some_none e)
  sound_rings _ e (neither r u) none = record { entries = none; rings = r; untied = u }

  pub sound_set : LinkedChecked k t ss ls (Ok tt) → Sound k t ss ls
  sound_set c =
      let (none, rings) = accepted_by (linked_refusal k t ss ls) c in
      let (p, judged, e) = rings in
      sound_rings p (answer_ok p (sym e)) judged none

  -- neither the links nor the sum is refused after that
  pub links_not_refused : (f : Fault) → LinkedChecked k t ss ls (Ok tt) → links_refusal k ls ≡ Some f → ⊥
  links_not_refused f c e = some_none (sym e ∙ links_accepted k t ss ls (entries_taken c))

  pub sum_not_refused : (f : Fault) → LinkedChecked k t ss ls (Ok tt) → sum_refusal k t ss ≡ Some f → ⊥
  sum_not_refused f c e = some_none (sym e ∙ sum_accepted k t ss ls (entries_taken c))

  -- the same of a row that holds them
  pub sound_row : (row : Terms) (kept : List Link) → Holds row k t ss → kept ≡ ls → Sound k t ss ls → Sound row.columns row.total (row_summands row) kept
  sound_row row kept h e s =
      subst (λ (n : ℕ). Sound n row.total (row_summands row) kept) (sym h.columns)
      (subst (λ (n : ℕ). Sound k n (row_summands row) kept) (sym h.total)
      (subst (λ (l : List ℕ). Sound k t l kept) (sym h.summands) (subst (λ (l : List Link). Sound k t ss l) (sym e) s)))

  -- and its meaning
  pub linked_held : (row : Terms) (kept : List Link) → Holds row k t ss → kept ≡ ls → row_meaning (linked_kind kept) row ≡ tight_rule (linked_scope k t ss ls) true
  linked_held row kept h e = held_means (linked_kind kept) row k t ss h ∙ ap (λ (l : List Link). tight_rule (linked_scope k t ss l) true) e

  -- a refusal that is handed on
  pub handed_on : (r : Result (Unit {0}) Fault) (g f : Fault) → r ≡ Err g → g ≡ f → LinkedChecked k t ss ls (Err f) → LinkedChecked k t ss ls r
  handed_on r g f e h c = subst (λ (q : Result (Unit {0}) Fault). LinkedChecked k t ss ls q) (sym (e ∙ ap (λ (x : Fault). Err x) h)) c

pub ok_if_none : (o : Option Fault) → o ≡ None → is_ok (answer o) ≡ true
ok_if_none o e = ap (λ (p : Option Fault). is_ok (answer p)) e

-- terms that are no sum are not set
pub not_set : (row : Terms) (f : Fault) → row_refusal row ≡ Some f → row_refusal row ≡ None → ⊥
not_set row f e h = some_none (sym e ∙ h)

-- a row that is set narrows by its table
module _ (r : LinkedSum) (vs : List Window) (set : row_refusal r.terms ≡ None) (ok : window_refusal r.terms.columns vs ≡ None) where
  abbrev means : Meaning
  means = tight_rule (linked_scope r.terms.columns r.terms.total (row_summands r.terms) (kept_links r)) true

  -- the table says of a plan of values what the links say
  table_same : (o : Option Distances) → r.links.distances ≡ o → (x : List ℤ) → lies x (all_values r.terms.columns) ≡ true → all_linked (kept_links r) x ≡ allowed_by o x
  table_same o e x there =
      r.links.same x (subst (λ (k : ℕ). lies x (all_values k) ≡ true) (sym (r.wide set)) there) ∙ ap (λ (q : Option Distances). allowed_by q x) e

  pub linked_void : r.links.distances ≡ None → Narrowed means vs (Ok Void) vs
  linked_void e =
      record {
        accepted = ok;
        stays = refl;
        none = λ x a there.
            both_ways (all_linked (kept_links r) x) (table_same None e x (lawful-values r.terms.columns x vs ok there))
            (and_parts (all_linked (kept_links r) x) (sums r.terms.total (row_summands r.terms) x) a).0;
      }

  pub table_wide : (T : Distances) → r.links.distances ≡ Some T → T.columns ≡ r.terms.columns
  table_wide T e = ap (λ (o : Option Distances). width_of r.links.columns o) (sym e) ∙ r.links.wide ∙ r.wide set

  pub linked_narrowed : (T : Distances) → r.links.distances ≡ Some T → (v : Verdict) (ws : List Window)
      → TotalOutcome r.terms.columns (distance_of T) r.terms.total (row_summands r.terms) vs v ws → Narrowed means vs (Ok v) ws
  linked_narrowed T e v ws h =
      total_narrowed r.terms.columns (distance_of T) _ r.terms.total (row_summands r.terms) (linked_sums r.terms.total (row_summands r.terms) (kept_links r))
      (linked_meets r.terms.columns r.terms.total (row_summands r.terms) (kept_links r) (none_if_ok _ (r.entries set)) (r.rings set) (r.untied set) T (table_wide T e)
      (table_same (Some T) e))
      vs
      (row_taken r.terms set).some
      ok
      v
      ws
      h

-- what the trim by the total asks of a row that is set
pub record Ready (vs : List Window) (T : Distances) (t : ℕ) (ss : List ℕ) : Type 0 where
  pub width : length vs ≡ T.columns
  pub closed : Closed (length vs) (distance_of T)
  pub columns : length vs ≤ 32
  pub lawful : all_lawful vs ≡ true
  pub few : length ss ≤ 31
  pub there : Columns (length vs) ss
  pub here : t < length vs

-- the windows vs were taken, by the number n of columns that the row means
module _ (r : LinkedSum) (vs : List Window) (n : ℕ) (wide : n ≡ row_width r.terms) (okay : Ok tt ≡ answer (window_refusal n vs)) where
  abbrev kind : Kind
  kind = linked_kind (kept_links r)

  abbrev set_meaning : Meaning
  set_meaning = tight_rule (kind_scope kind r.terms.columns r.terms.total (row_summands r.terms)) true

  ok : window_refusal (row_width r.terms) vs ≡ None
  ok = subst (λ (m : ℕ). window_refusal m vs ≡ None) wide (answer_ok (window_refusal n vs) (sym okay))

  pub unset_narrowed : (b : Bool) → b ≡ is_ok (answer (row_refusal r.terms)) → b ≡ false → Narrowed (linked_meaning r) vs (Ok Open) vs
  unset_narrowed b e f = fresh_narrowed (row_refusal r.terms) set_meaning (row_width r.terms) vs (width_means kind r.terms) ok (sym e ∙ f)

  -- the row is set
  module _ (b : Bool) (says : b ≡ is_ok (answer (row_refusal r.terms))) (yes : b ≡ true) where
    is_set : row_refusal r.terms ≡ None
    is_set = none_if_ok (row_refusal r.terms) (sym says ∙ yes)

    windows_taken : window_refusal r.terms.columns vs ≡ None
    windows_taken = taken_by (row_refusal r.terms) set_meaning (row_width r.terms) vs (width_means kind r.terms) ok (sym says ∙ yes)

    by_set : (v : Verdict) (ws : List Window) → Narrowed set_meaning vs (Ok v) ws → Narrowed (linked_meaning r) vs (Ok v) ws
    by_set = set_narrowed (row_refusal r.terms) set_meaning (row_width r.terms) vs (width_means kind r.terms) ok (sym says ∙ yes)

    pub void_narrowed : r.links.distances ≡ None → Narrowed (linked_meaning r) vs (Ok Void) vs
    void_narrowed e = by_set Void vs (linked_void r vs is_set windows_taken e)

    -- with a table
    module _ (T : Distances) (table : r.links.distances ≡ Some T) (ss : List ℕ) (same : ss ≡ row_summands r.terms) where
      long : length vs ≡ r.terms.columns
      long = (taken r.terms.columns vs windows_taken).1

      pub ready : Ready vs T r.terms.total ss
      ready =
          let sum = row_taken r.terms is_set in
          let even : T.columns ≡ length vs = table_wide r vs is_set windows_taken T table ∙ sym long in
          record {
            width = sym even;
            closed = subst (λ (m : ℕ). Closed m (distance_of T)) even (table_closed T);
            columns = omega (arith, long, sum.few);
            lawful = (taken r.terms.columns vs windows_taken).0;
            few = subst (λ (l : List ℕ). length l ≤ 31) (sym same) sum.fit;
            there = subst (λ (m : ℕ). Columns m ss) (sym long) (subst (λ (l : List ℕ). Columns r.terms.columns l) (sym same) sum.columns);
            here = omega (arith, long, sum.total);
          }

      pub table_narrowed : (v : Verdict) (ws : List Window) → TotalOutcome (length vs) (distance_of T) r.terms.total ss vs v ws → Narrowed (linked_meaning r) vs (Ok v) ws
      table_narrowed v ws h =
          by_set v ws
          (linked_narrowed r vs is_set windows_taken T table v ws
          (subst (λ (l : List ℕ). TotalOutcome r.terms.columns (distance_of T) r.terms.total l vs v ws) same
          (subst (λ (m : ℕ). TotalOutcome m (distance_of T) r.terms.total ss vs v ws) long h)))
