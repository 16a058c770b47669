-- Sums of columns: which plans meet them, and what is refused of their entries. The entries are the total, then the summands.
use Rattle.std.specs.Prelude.{◌≡◌, ℕ, suc, ◌<◌, ◌≤◌, Bool, true, false, cond, ◌&&◌, ◌||◌, List, [], ◌∷◌, length, ℤ, pos, ◌+ℤ◌, Some, None, Option, ◌==◌, ◌≢◌, nat_le, nat_lt, slice_index}
use Rattle.std.specs.Option.{option_map}
use Rattle.std.specs.List.{AllWithin}
use Rattle.std.specs.Ordering.{int_eq}
use Rattle.rules.specs.declared.fault.Fault.{Fault}
use Rattle.rules.specs.declared.fault.Fault.TheVariants.{ColumnCount, NoColumn, ListLength, ColumnTwice}
use Rattle.rules.specs.Plans.{value_at}
use Rattle.rules.specs.Refusals.{first_failing, First, unless, at_first, counted, Counted}

-- which plans a kind of sum allows, by its total and its summands
abbrev pub Kind : Type 0
Kind = ℕ → List ℕ → List ℤ → Bool

-- the values of the columns added up
abbrev pub added_up : List ℕ → List ℤ → ℤ
added_up [] x = pos 0
added_up (s ∷ ss) x = value_at x s +ℤ added_up ss x

-- the total equals the summands added up
abbrev pub sums : Kind
sums t ss x = int_eq (value_at x t) (added_up ss x)

-- the column is there
abbrev pub there : ℕ → ℕ → Bool
there k c = nat_lt c k

-- the column is one of the list
abbrev pub named : ℕ → List ℕ → Bool
named c [] = false
named c (d ∷ ds) = c == d || named c ds

-- the index of the first of the columns that is among those seen before it
unfoldable pub first_again : List ℕ → List ℕ → Option ℕ
first_again seen [] = None
first_again seen (c ∷ cs) = cond (named c seen) (Some 0) (option_map suc (first_again (c ∷ seen) cs))

-- a sum has 1 to 31 summands
abbrev pub some_few : ℕ → Bool
some_few n = nat_le 1 n && nat_le n 31

-- the fault of a total and its summands that are offered for k columns
unfoldable pub sum_refusal : ℕ → ℕ → List ℕ → Option Fault
sum_refusal k t ss =
    unless (counted k) ColumnCount
    (at_first NoColumn (first_failing (there k) (t ∷ ss))
    (unless (some_few (length ss)) ListLength
    (at_first ColumnTwice (first_again [] (t ∷ ss)) None)))

-- entry i names a column that an entry before it names, and no entry before does
pub record Again (cs : List ℕ) (i : ℕ) : Type 0 where
  pub within : i < length cs
  pub earlier : ℕ
  pub before : earlier < i
  pub same : slice_index cs earlier ≡ slice_index cs i
  pub first : (a b : ℕ) → a < b → b < i → slice_index cs a ≢ slice_index cs b

-- no two entries name one column
abbrev pub Distinct : List ℕ → Type 0
Distinct cs = (a b : ℕ) → a < b → b < length cs → slice_index cs a ≢ slice_index cs b

abbrev pub AllThere : ℕ → List ℕ → Type 0
AllThere k cs = AllWithin (λ c. there k c ≡ true) cs 0 (length cs)

-- the same in words: the number of columns, then the first entry whose column is not there, then none or too many summands, then the
-- first entry that names a column again, then none
pub data SumJudged (k t : ℕ) (ss : List ℕ) : Option Fault → Type 0 where
  no_width : (Counted k → ⊥) → SumJudged k t ss (Some ColumnCount)
  absent : (i : ℕ) → Counted k → First (there k) (t ∷ ss) i → SumJudged k t ss (Some (NoColumn i))
  wrong_length : Counted k → AllThere k (t ∷ ss) → ((1 ≤ length ss) × (length ss ≤ 31) → ⊥) → SumJudged k t ss (Some ListLength)
  twice : (i : ℕ) → Counted k → AllThere k (t ∷ ss) → 1 ≤ length ss → length ss ≤ 31 → Again (t ∷ ss) i → SumJudged k t ss (Some (ColumnTwice i))
  accepted : Counted k → AllThere k (t ∷ ss) → 1 ≤ length ss → length ss ≤ 31 → Distinct (t ∷ ss) → SumJudged k t ss None
