-- Sums with links: which plans they allow, and what is refused of their entries. The entries are the total, the summands, then the
-- links.
use Rattle.std.specs.Prelude.{◌≡◌, ℕ, ◌+◌, ◌≤◌, Bool, not, ◌&&◌, List, [], ◌∷◌, length, ℤ, Some, None, Err, Option, Result, MatchOption, ◌==◌, nat_le}
use Rattle.std.specs.Option.{option_map}
use Rattle.rules.specs.declared.fault.Fault.{Fault}
use Rattle.rules.specs.declared.fault.Fault.TheVariants.{ColumnCount, NoColumn, ListLength, ColumnTwice, OutOfRange}
use Rattle.rules.specs.Meaning.{Scope}
use Rattle.rules.specs.Refusals.{first_failing, First, unless, at_first, counted, Counted}
use Rattle.differences.specs.declared.link.Link.{Link}
use Rattle.differences.specs.Links.{all_linked, present, two_columns, bounded, All}
use Rattle.rings.specs.Rings.{RingsAnswer}
use Rattle.totals.specs.Sums.{sums, there, first_again, some_few, Again, Distinct, AllThere}

-- the plan keeps every link, and the total equals the summands added up
abbrev pub linked_sums : ℕ → List ℕ → List Link → List ℤ → Bool
linked_sums t ss ls x = all_linked ls x && sums t ss x

abbrev pub linked_scope : ℕ → ℕ → List ℕ → List Link → Scope
linked_scope k t ss ls = record { width = k; allows = linked_sums t ss ls }

-- the link joins two columns other than the total
abbrev pub other_columns : ℕ → Link → Bool
other_columns t l = two_columns l && (not (l.left == t) && not (l.right == t))

-- the entry of link j
abbrev pub link_entry : List ℕ → ℕ → ℕ
link_entry ss j = 1 + length ss + j

-- the first entry: one of the total and the summands, or else one of the links
abbrev pub first_entry : List ℕ → Option ℕ → Option ℕ → Option ℕ
first_entry ss None link = option_map (link_entry ss) link
first_entry ss (Some i) link = Some i

-- the first entry that names a column that is not there
abbrev pub first_absent : ℕ → ℕ → List ℕ → List Link → Option ℕ
first_absent k t ss ls = first_entry ss (first_failing (there k) (t ∷ ss)) (first_failing (present k) ls)

-- the first entry that names a column again: the total or a summand one that stands before it, a link the same twice or the total
abbrev pub first_repeated : ℕ → List ℕ → List Link → Option ℕ
first_repeated t ss ls = first_entry ss (first_again [] (t ∷ ss)) (first_failing (other_columns t) ls)

-- 1 to 31 summands, and at most 256 links
abbrev pub fits : List ℕ → List Link → Bool
fits ss ls = some_few (length ss) && nat_le (length ls) 256

-- the fault of a total, its summands and links that are offered for k columns
unfoldable pub linked_refusal : ℕ → ℕ → List ℕ → List Link → Option Fault
linked_refusal k t ss ls =
    unless (counted k) ColumnCount
    (at_first NoColumn (first_absent k t ss ls)
    (unless (fits ss ls) ListLength
    (at_first ColumnTwice (first_repeated t ss ls)
    (at_first OutOfRange (option_map (link_entry ss) (first_failing bounded ls)) None))))

-- there are 1 to 32 columns, and each entry names some of them
pub record Named (k t : ℕ) (ss : List ℕ) (ls : List Link) : Type 0 where
  pub columns : Counted k
  pub entries : AllThere k (t ∷ ss)
  pub links : All (present k) ls

pub record Fits (ss : List ℕ) (ls : List Link) : Type 0 where
  pub some : 1 ≤ length ss
  pub few : length ss ≤ 31
  pub links : length ls ≤ 256

-- the same in words: the number of columns, then the first entry that names a column that is not there, then none or too many
-- summands or too many links, then the first entry that names a column again, then the first bound out of range, then none
pub data LinkedJudged (k t : ℕ) (ss : List ℕ) (ls : List Link) : Option Fault → Type 0 where
  no_width : (Counted k → ⊥) → LinkedJudged k t ss ls (Some ColumnCount)
  absent : (i : ℕ) → Counted k → First (there k) (t ∷ ss) i → LinkedJudged k t ss ls (Some (NoColumn i))
  link_absent : (j : ℕ) → Counted k → AllThere k (t ∷ ss) → First (present k) ls j → LinkedJudged k t ss ls (Some (NoColumn (link_entry ss j)))
  wrong_length : Named k t ss ls → (Fits ss ls → ⊥) → LinkedJudged k t ss ls (Some ListLength)
  twice : (i : ℕ) → Named k t ss ls → Fits ss ls → Again (t ∷ ss) i → LinkedJudged k t ss ls (Some (ColumnTwice i))
  link_twice : (j : ℕ) → Named k t ss ls → Fits ss ls → Distinct (t ∷ ss) → First (other_columns t) ls j → LinkedJudged k t ss ls (Some (ColumnTwice (link_entry ss j)))
  unbounded : (j : ℕ) → Named k t ss ls → Fits ss ls → Distinct (t ∷ ss) → All (other_columns t) ls → First bounded ls j → LinkedJudged k t ss ls (Some (OutOfRange (link_entry ss j)))
  accepted : Named k t ss ls → Fits ss ls → Distinct (t ∷ ss) → All (other_columns t) ls → All bounded ls → LinkedJudged k t ss ls None

-- the answer for a total, summands and links: what is refused of the entries, then of the rings of the links
abbrev pub LinkedChecked : ℕ → ℕ → List ℕ → List Link → Result (Unit {0}) Fault → Type 0
LinkedChecked k t ss ls r = MatchOption (linked_refusal k t ss ls) (RingsAnswer k ls ss r) (λ f. r ≡ Err f)
