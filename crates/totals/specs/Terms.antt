-- Rows that hold a total and summands, and what they mean.
use Rattle.std.specs.Prelude.{◌≡◌, ℕ, true, List, Some, None, Option}
use Rattle.rules.specs.declared.fault.Fault.{Fault}
use Rattle.rules.specs.ShortLists.{listed}
use Rattle.rules.specs.Meaning.{Scope, Meaning, tight_rule, meaning_if}
use Rattle.totals.specs.declared.terms.Terms.{Terms}
use Rattle.totals.specs.Sums.{sum_refusal}
-- passed on: which plans a kind of sum allows is said here too
pub use Rattle.totals.specs.Sums.{Kind}

-- the summands of a row
abbrev pub row_summands : Terms → List ℕ
row_summands row = listed row.summands

-- the fault of a row that is no sum
abbrev pub row_refusal : Terms → Option Fault
row_refusal row = sum_refusal row.columns row.total (row_summands row)

abbrev pub kind_scope : Kind → ℕ → ℕ → List ℕ → Scope
kind_scope kind k t ss = record { width = k; allows = kind t ss }

-- what a row means for a kind of sum: a row that is no sum means what a fresh rule means
abbrev pub row_meaning : Kind → Terms → Meaning
row_meaning kind row = meaning_if (row_refusal row) (tight_rule (kind_scope kind row.columns row.total (row_summands row)) true)

abbrev pub width_if : Option Fault → ℕ → ℕ
width_if None k = k
width_if (Some f) k = 1

-- the number of columns is that of its meaning for every kind
abbrev pub row_width : Terms → ℕ
row_width row = width_if (row_refusal row) row.columns

-- the row holds this total and these summands, and they are a sum
pub record Holds (row : Terms) (k t : ℕ) (ss : List ℕ) : Type 0 where
  pub columns : row.columns ≡ k
  pub total : row.total ≡ t
  pub summands : row_summands row ≡ ss
  pub sound : row_refusal row ≡ None
