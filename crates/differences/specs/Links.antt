-- Links between columns, the plans that keep them, and the refusals of a list of links.
use Rattle.std.specs.Prelude.{◌≡◌, ℕ, ◌<◌, ◌≤◌, Bool, true, not, ◌&&◌, List, [], ◌∷◌, length, ℤ, pos, negsuc, ◌+ℤ◌, Some, None, Option, ◌==◌, int_le, nat_le, nat_lt}
use Rattle.std.specs.List.{AllWithin}
use Rattle.rules.specs.declared.fault.Fault.{Fault}
use Rattle.rules.specs.declared.fault.Fault.TheVariants.{ColumnCount, NoColumn, ListLength, ColumnTwice, OutOfRange}
use Rattle.rules.specs.Plans.{value_at}
use Rattle.rules.specs.Refusals.{first_failing, First, unless, at_first, counted, Counted}
use Rattle.rules.specs.Meaning.{Scope, Meaning, tight_rule}
use Rattle.differences.specs.declared.link.Link.{Link}

-- the left column of the link is at most its right column plus its bound
abbrev pub linked : Link → List ℤ → Bool
linked l x = int_le (value_at x l.left) (value_at x l.right +ℤ l.bound)

-- the plan keeps every link
abbrev pub all_linked : List Link → List ℤ → Bool
all_linked [] x = true
all_linked (l ∷ ls) x = linked l x && all_linked ls x

abbrev pub links_scope : ℕ → List Link → Scope
links_scope k ls = record { width = k; allows = all_linked ls }

-- the rule of a list of links: tight and full
abbrev pub links_meaning : ℕ → List Link → Meaning
links_meaning k ls = tight_rule (links_scope k ls) true

-- both columns of the link are there
abbrev pub present : ℕ → Link → Bool
present k l = nat_lt l.left k && nat_lt l.right k

-- the link joins two columns
abbrev pub two_columns : Link → Bool
two_columns l = not (l.left == l.right)

-- the bound is from -60,000,000 to 60,000,000
abbrev pub bounded : Link → Bool
bounded l = int_le (negsuc 59999999) l.bound && int_le l.bound (pos 60000000)

-- the fault of links that are offered for k columns
unfoldable pub links_refusal : ℕ → List Link → Option Fault
links_refusal k ls =
    unless (counted k) ColumnCount
    (at_first NoColumn (first_failing (present k) ls)
    (unless (nat_le (length ls) 256) ListLength
    (at_first ColumnTwice (first_failing two_columns ls)
    (at_first OutOfRange (first_failing bounded ls) None))))

abbrev pub All : (Link → Bool) → List Link → Type 0
All test ls = AllWithin (λ l. test l ≡ true) ls 0 (length ls)

-- the same in words: the number of columns, then the first link that names a column that is not there, then too many links, then
-- the first link of a column with itself, then the first bound out of range, then none
pub data LinksJudged (k : ℕ) (ls : List Link) : Option Fault → Type 0 where
  not_wide : (Counted k → ⊥) → LinksJudged k ls (Some ColumnCount)
  absent : (i : ℕ) → Counted k → First (present k) ls i → LinksJudged k ls (Some (NoColumn i))
  too_many : Counted k → All (present k) ls → 256 < length ls → LinksJudged k ls (Some ListLength)
  one_column : (i : ℕ) → Counted k → All (present k) ls → length ls ≤ 256 → First two_columns ls i → LinksJudged k ls (Some (ColumnTwice i))
  unbounded : (i : ℕ) → Counted k → All (present k) ls → length ls ≤ 256 → All two_columns ls → First bounded ls i → LinksJudged k ls (Some (OutOfRange i))
  accepted : Counted k → All (present k) ls → length ls ≤ 256 → All two_columns ls → All bounded ls → LinksJudged k ls None
