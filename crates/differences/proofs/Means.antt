-- What a row means, and what narrow owes for it.
use Rattle.std.proofs.Common.{◌≡◌, ℕ, true, false, List, ℤ, is_ok, None, Ok, Option, ◌∙◌}
use Rattle.rules.specs.declared.window.Window.{Window}
use Rattle.rules.specs.declared.fault.Fault.{Fault}
use Rattle.rules.specs.declared.verdict.Verdict.{Verdict}
use Rattle.rules.specs.declared.verdict.Verdict.TheVariants.{Open, Void}
use Rattle.rules.specs.Refusals.{window_refusal, answer, Counted}
use Rattle.rules.specs.Enumeration.{Leaves}
use Rattle.rules.specs.Trims.{verdict_left}
use Rattle.rules.specs.Meaning.{Scope, tight_rule, meaning_if, Narrowed}
use Rattle.differences.specs.declared.apart.Apart.{Apart}
use Rattle.differences.specs.Apart.{apart, apart_scope, apart_refusal, apart_meaning}
use Rattle.differences.proofs.Settings.{has_set}
use Rattle.rules.proofs.Outcomes.{tight_outcome}
use Rattle.rules.proofs.Setting.{none_if_ok, set_if_none, counted_if}
use Rattle.rules.proofs.Setting as setting

-- a row with the numbers of an accepted setting
pub set_means : (row : Apart) (columns one other : ℕ) (gap : ℤ) → row.columns ≡ columns → row.one ≡ one → row.other ≡ other → row.gap ≡ gap → apart_refusal columns one other gap ≡ None → apart_meaning row ≡ tight_rule (apart_scope columns one other gap) false
set_means row columns one other gap c o p g none = let e : apart_meaning row ≡ meaning_if (apart_refusal columns one other gap) (tight_rule (apart_scope columns one other gap) false) = cc in e ∙ set_if_none _ _ none

module _ (row : Apart) where
  abbrev refusal : Option Fault
  refusal = apart_refusal row.columns row.one row.other row.gap

  abbrev scope : Scope
  scope = apart_scope row.columns row.one row.other row.gap

  pub few_columns : Counted (apart_meaning row).scope.width
  few_columns = counted_if refusal (tight_rule scope false) (λ e. (has_set _ _ _ _ e).counted)

  -- the windows vs were not refused, by the number of columns n
  module _ (n : ℕ) (vs : List Window) (width : n ≡ (apart_meaning row).scope.width) (ok : window_refusal n vs ≡ None) where
    pub fresh_narrowed : is_ok (answer refusal) ≡ false → Narrowed (apart_meaning row) vs (Ok Open) vs
    fresh_narrowed = setting.fresh_narrowed refusal (tight_rule scope false) n vs width ok

    pub taken_by : is_ok (answer refusal) ≡ true → window_refusal row.columns vs ≡ None
    taken_by = setting.taken_by refusal (tight_rule scope false) n vs width ok

    pub set_narrowed : is_ok (answer refusal) ≡ true → (v : Verdict) (ws : List Window) → Leaves (apart row.one row.other row.gap) vs (verdict_left v ws) → (v ≡ Void → ws ≡ vs) → Narrowed (apart_meaning row) vs (Ok v) ws
    set_narrowed e v ws left stays =
        setting.set_narrowed refusal (tight_rule scope false) n vs width ok e v ws
        (tight_outcome scope vs ws (has_set _ _ _ _ (none_if_ok refusal e)).counted.0 (taken_by e) v left stays)
