-- Walks along links, and rings: closed walks.
use Rattle.std.specs.Prelude.{◌≡◌, ℕ, ◌<◌, List, [], ◌∷◌, ℤ, pos, ◌+ℤ◌, ◌<ℤ◌, Some, None, Err, Option, Result, MatchOption}
use Rattle.std.specs.List.{ContainsAt}
use Rattle.rules.specs.declared.fault.Fault.{Fault}
use Rattle.rules.specs.declared.fault.Fault.TheVariants.{NegativeRing, TiedSummands}
use Rattle.rules.specs.Refusals.{answer}
use Rattle.differences.specs.Links.{links_refusal}
use Rattle.differences.specs.declared.link.Link.{Link}

-- the links of the list w lead from column i to column j; a link leads from its right column to its left one
abbrev pub IsWalk : List Link → ℕ → ℕ → List Link → Type 0
IsWalk links i j [] = i ≡ j
IsWalk links i j (l ∷ w) = ContainsAt links l × (l.right ≡ i) × IsWalk links l.left j w

-- the length of a walk: the sum of its bounds
abbrev pub walk_length : List Link → ℤ
walk_length [] = pos 0
walk_length (l ∷ w) = l.bound +ℤ walk_length w

-- some walk leads from i to j, and v is its length
pub record Walk (links : List Link) (i j : ℕ) (v : ℤ) : Type 0 where
  pub along : List Link
  pub leads : IsWalk links i j along
  pub long : walk_length along ≡ v

-- a ring below 0 passes through column i
pub record RingBelow (links : List Link) (i : ℕ) : Type 0 where
  pub length : ℤ
  pub ring : Walk links i i length
  pub below : length <ℤ pos 0

-- one ring of length 0 passes through columns p and q: there and back
pub record Tied (links : List Link) (p q : ℕ) : Type 0 where
  pub there : ℤ
  pub back : ℤ
  pub to : Walk links p q there
  pub fro : Walk links q p back
  pub zero : there +ℤ back ≡ pos 0

-- the smallest column below k through which a ring below 0 passes, if there is any
abbrev pub RingPlace : ℕ → List Link → Option ℕ → Type 0
RingPlace k links None = (i : ℕ) → i < k → RingBelow links i → ⊥
RingPlace k links (Some i) = (i < k) × RingBelow links i × ((j : ℕ) → j < i → RingBelow links j → ⊥)

-- column p is a summand, and tied to another summand that is there
pub record TiedSummand (k : ℕ) (links : List Link) (summands : List ℕ) (p : ℕ) : Type 0 where
  pub other : ℕ
  pub there : other < k
  pub named : ContainsAt summands p
  pub also : ContainsAt summands other
  pub apart : p ≡ other → ⊥
  pub tied : Tied links p other

-- the fault of links with a ring below 0, at the smallest column on such a ring, then of two tied summands, at the smallest one
pub data RingsJudged (k : ℕ) (links : List Link) (summands : List ℕ) : Option Fault → Type 0 where
  ring_below : (i : ℕ) → RingPlace k links (Some i) → RingsJudged k links summands (Some (NegativeRing i))
  tied : (p : ℕ) → RingPlace k links None → p < k → TiedSummand k links summands p → ((q : ℕ) → q < p → TiedSummand k links summands q → ⊥) → RingsJudged k links summands (Some (TiedSummands p))
  neither : RingPlace k links None → ((p : ℕ) → p < k → TiedSummand k links summands p → ⊥) → RingsJudged k links summands None

-- the answer for links that are offered with a list of summands: what is refused of the links alone, then of their rings
abbrev pub RingsAnswer : ℕ → List Link → List ℕ → Result (Unit {0}) Fault → Type 0
RingsAnswer k links summands r = (o : Option Fault) × RingsJudged k links summands o × (r ≡ answer o)

abbrev pub RingsChecked : ℕ → List Link → List ℕ → Result (Unit {0}) Fault → Type 0
RingsChecked k links summands r = MatchOption (links_refusal k links) (RingsAnswer k links summands r) (λ f. r ≡ Err f)
