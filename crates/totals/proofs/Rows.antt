-- Rows that hold a total and summands.
use Rattle.std.proofs.Common.{◌≡◌, ℕ, true, false, List, length, ℤ, is_ok, Some, None, Ok, Err, Option, Result, sym, refl, ap, ◌∙◌, subst, arith, MatchResult}
use Rattle.rules.specs.declared.window.Window.{Window}
use Rattle.rules.specs.declared.verdict.Verdict.{Verdict}
use Rattle.rules.specs.declared.verdict.Verdict.TheVariants.{Open}
use Rattle.rules.specs.declared.fault.Fault.{Fault}
use Rattle.rules.specs.Plans.{all_lawful}
use Rattle.rules.specs.Refusals.{answer, window_refusal, Counted}
use Rattle.rules.specs.Meaning.{Scope, Meaning, tight_rule, meaning_if, fresh_rule, Narrowed}
use Rattle.rules.proofs.Failing as failing
use Rattle.rules.proofs.Setting.{none_if_ok, set_if_none, counted_if, fresh_narrowed, taken_by, set_narrowed}
use Rattle.totals.specs.declared.terms.Terms.{Terms}
use Rattle.totals.specs.Sums.{Kind, sum_refusal}
use Rattle.totals.specs.Terms.{row_summands, row_refusal, row_width, width_if, row_meaning, kind_scope, Holds}
use Rattle.totals.specs.Cuts.{Columns, TotalOutcome}
use Rattle.totals.proofs.Supporting.{Meets, total_narrowed}
use Rattle.totals.proofs.Judging.{Taken, sum_taken}

-- a row that was set holds what it was given
pub held : (row : Terms) (k t : ℕ) (ss : List ℕ) → row.columns ≡ k → row.total ≡ t → row_summands row ≡ ss → sum_refusal k t ss ≡ None → Holds row k t ss
held row k t ss ek et es none = let same : row_refusal row ≡ sum_refusal k t ss = cc in record { columns = ek; total = et; summands = es; sound = same ∙ none }

pub held_means : (kind : Kind) (row : Terms) (k t : ℕ) (ss : List ℕ) → Holds row k t ss → row_meaning kind row ≡ tight_rule (kind_scope kind k t ss) true
held_means kind row k t ss h =
    let ek = h.columns in
    let et = h.total in
    let es = h.summands in
    let e : tight_rule (kind_scope kind row.columns row.total (row_summands row)) true ≡ tight_rule (kind_scope kind k t ss) true = cc in
    set_if_none _ _ h.sound ∙ e

-- a row that is no sum is fresh
pub none_means : (kind : Kind) (row : Terms) (f : Fault) → row_refusal row ≡ Some f → row_meaning kind row ≡ fresh_rule
none_means kind row f e = ap (λ (o : Option Fault). meaning_if o (tight_rule (kind_scope kind row.columns row.total (row_summands row)) true)) e

widths : (o : Option Fault) (m : Meaning) (k : ℕ) → m.scope.width ≡ k → width_if o k ≡ (meaning_if o m).scope.width
widths None m k e = sym e
widths (Some f) m k e = refl

pub width_means : (kind : Kind) (row : Terms) → row_width row ≡ (row_meaning kind row).scope.width
width_means kind row = widths (row_refusal row) (tight_rule (kind_scope kind row.columns row.total (row_summands row)) true) row.columns refl

-- what is known of a row that is a sum
pub row_taken : (row : Terms) → row_refusal row ≡ None → Taken row.columns row.total (row_summands row)
row_taken row e = sum_taken _ _ _ e

pub row_columns : (kind : Kind) (row : Terms) → Counted (row_meaning kind row).scope.width
row_columns kind row =
    counted_if (row_refusal row) (tight_rule (kind_scope kind row.columns row.total (row_summands row)) true)
    (λ e. let h = row_taken row e in (h.some, h.few))

-- setting the terms of a rule sets the rule
pub set_means : (kind : Kind) (before row : Terms) (k t : ℕ) (ss : List ℕ) (r : Result (Unit {0}) Fault) → MatchResult r (λ _. Holds row k t ss) (λ _. row ≡ before)
    → MatchResult r (λ _. row_meaning kind row ≡ tight_rule (kind_scope kind k t ss) true) (λ _. row ≡ before)
set_means kind before row k t ss (Ok _) h = held_means kind row k t ss h
set_means kind before row k t ss (Err _) h = h

pub columns_of : {n k : ℕ} {ss : List ℕ} → n ≡ k → Columns k ss → Columns n ss
columns_of e c = record { there = λ a l. omega (arith, c.there a l) }

-- what narrow knows of a row that is a sum, and of windows that were not refused
pub record Given (row : Terms) (vs : List Window) : Type 0 where
  pub sound : is_ok (answer (row_refusal row)) ≡ true
  pub none : sum_refusal row.columns row.total (row_summands row) ≡ None
  pub taken : Taken row.columns row.total (row_summands row)
  pub ok : window_refusal row.columns vs ≡ None
  pub lawful : all_lawful vs ≡ true
  pub long : length vs ≡ row.columns

module _ (kind : Kind) (row : Terms) (n : ℕ) (vs : List Window) (width : n ≡ row_width row) (ok : window_refusal n vs ≡ None) where
  abbrev scope : Scope
  scope = kind_scope kind row.columns row.total (row_summands row)

  pub row_fresh : is_ok (answer (row_refusal row)) ≡ false → Narrowed (row_meaning kind row) vs (Ok Open) vs
  row_fresh = fresh_narrowed (row_refusal row) (tight_rule scope true) n vs (width ∙ width_means kind row) ok

  pub row_given : is_ok (answer (row_refusal row)) ≡ true → Given row vs
  row_given e =
      let accepted = taken_by (row_refusal row) (tight_rule scope true) n vs (width ∙ width_means kind row) ok e in
      let given = failing.taken row.columns vs accepted in
      record { sound = e; none = none_if_ok _ e; taken = row_taken row (none_if_ok _ e); ok = accepted; lawful = given.0; long = given.1 }

  -- the outcome of the trim by its total, over distances with which the row means its kind of sum
  pub row_narrowed : (G : Given row vs) (d : ℕ → ℕ → ℤ) (w : ℕ → ℕ → Option ℤ) → Meets row.columns d w row.total (row_summands row) (kind row.total (row_summands row))
      → (v : Verdict) (ws : List Window) → TotalOutcome (length vs) d row.total (row_summands row) vs v ws → Narrowed (row_meaning kind row) vs (Ok v) ws
  row_narrowed G d w M v ws h =
      set_narrowed (row_refusal row) (tight_rule scope true) n vs (width ∙ width_means kind row) ok G.sound v ws
      (total_narrowed row.columns d w row.total (row_summands row) (kind row.total (row_summands row)) M vs G.taken.some G.ok v ws
      (subst (λ (k : ℕ). TotalOutcome k d row.total (row_summands row) vs v ws) G.long h))
