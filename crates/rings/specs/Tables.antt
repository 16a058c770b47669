-- The table of walks: for two columns the length of a walk that leads from one to the other, or none.
use Rattle.std.specs.Prelude.{◌≡◌, ℕ, ◌<◌, Bool, true, false, not, ◌&&◌, ◌||◌, List, [], ℤ, pos, negsuc, ◌+ℤ◌, ◌≤ℤ◌, is_some, Some, None, Option, IfSome, ◌==◌, int_lt, nat_lt, slice_index_or}
use Rattle.std.specs.Int.{int_min}
use Rattle.std.specs.List.{list_any, range_with_len, ContainsAt}
use Rattle.std.specs.Ordering.{int_eq}
use Rattle.differences.specs.declared.link.Link.{Link}
use Rattle.rings.specs.Rings.{Walk}

abbrev pub entry : List (Option ℤ) → ℕ → Option ℤ
entry row j = slice_index_or row j None

abbrev pub at : List (List (Option ℤ)) → ℕ → ℕ → Option ℤ
at t i j = slice_index_or (slice_index_or t i []) j None

-- a walk of this length or a shorter one is there
abbrev pub AtMost : Option ℤ → ℤ → Type 0
AtMost None z = ⊥
AtMost (Some v) z = v ≤ℤ z

-- one walk after the other
abbrev pub joined : Option ℤ → Option ℤ → Option ℤ
joined None b = None
joined (Some x) None = None
joined (Some x) (Some y) = Some (x +ℤ y)

-- the shorter of two
abbrev pub shorter : Option ℤ → Option ℤ → Option ℤ
shorter None b = b
shorter (Some x) None = Some x
shorter (Some x) (Some y) = Some (int_min x y)

-- e is d with the ways by column m
pub record Stepped (k m : ℕ) (d e : ℕ → ℕ → Option ℤ) : Type 0 where
  pub is : (i j : ℕ) → i < k → j < k → e i j ≡ shorter (d i j) (joined (d i m) (d m j))

-- every column on the way between two columns of C is in C
pub record Convex (links : List Link) (k : ℕ) (C : ℕ → Bool) : Type 0 where
  pub between : (i m j : ℕ) → i < k → m < k → j < k → C i ≡ true → C j ≡ true → (v w : ℤ) → Walk links i m v → Walk links m j w → C m ≡ true

-- no ring that the table shows at a column of C is below 0
abbrev pub NoneBelow : ℕ → (ℕ → Bool) → (ℕ → ℕ → Option ℤ) → Type 0
NoneBelow k C d = (i : ℕ) → i < k → C i ≡ true → (v : ℤ) → d i i ≡ Some v → pos 0 ≤ℤ v

-- what the table says of the links once the ways by the first m columns are entered
pub record Walks (k : ℕ) (links : List Link) (m : ℕ) (d : ℕ → ℕ → Option ℤ) : Type 0 where
  pub sound : (i j : ℕ) → i < k → j < k → (v : ℤ) → d i j ≡ Some v → Walk links i j v
  pub single : (l : Link) → ContainsAt links l → AtMost (d l.right l.left) l.bound
  pub reach : (i n j : ℕ) → i < k → n < k → j < k → n < m → is_some (d i n) ≡ true → is_some (d n j) ≡ true → is_some (d i j) ≡ true
  pub short : (C : ℕ → Bool) → Convex links k C → NoneBelow k C d → (i n j : ℕ) → i < k → n < k → j < k → n < m
      → C i ≡ true → C n ≡ true → C j ≡ true → (a b : ℤ) → d i n ≡ Some a → d n j ≡ Some b → AtMost (d i j) (a +ℤ b)

-- some walk leads from i to j, the empty one too
abbrev pub reaches : (ℕ → ℕ → Option ℤ) → ℕ → ℕ → Bool
reaches d i j = i == j || is_some (d i j)

abbrev pub negative : Option ℤ → Bool
negative None = false
negative (Some v) = int_lt v (pos 0)

-- column i reaches column j, is reached from it, and a ring below 0 shows there
abbrev pub ring_by : (ℕ → ℕ → Option ℤ) → ℕ → ℕ → Bool
ring_by d i j = (reaches d i j && reaches d j i) && negative (d j j)

-- column i reaches a column that shows a ring below 0, and is reached from it
abbrev pub on_ring_below : ℕ → (ℕ → ℕ → Option ℤ) → ℕ → Bool
on_ring_below k d i = list_any (ring_by d i) (range_with_len 0 k)

abbrev pub zero_sum : Option ℤ → Option ℤ → Bool
zero_sum None b = false
zero_sum (Some x) None = false
zero_sum (Some x) (Some y) = int_eq (x +ℤ y) (pos 0)

-- two different columns, and there and back is 0
abbrev pub shows_tie : (ℕ → ℕ → Option ℤ) → ℕ → ℕ → Bool
shows_tie d p q = not (p == q) && zero_sum (d p q) (d q p)

abbrev pub tied_to : ℕ → (ℕ → ℕ → Option ℤ) → ℕ → ℕ → Bool
tied_to k d p q = nat_lt q k && shows_tie d p q

-- column p and one of the summands show a tie
abbrev pub tied_among : ℕ → (ℕ → ℕ → Option ℤ) → ℕ → List ℕ → Bool
tied_among k d p ss = list_any (tied_to k d p) ss

-- p is one of the summands, and the table shows it tied to one of them
abbrev pub is_tied : ℕ → (ℕ → ℕ → Option ℤ) → List ℕ → ℕ → Bool
is_tied k d ss p = list_any (λ q. q == p) ss && tied_among k d p ss

-- two such lengths can be added
abbrev pub Moderate : Option ℤ → Type 0
Moderate o = IfSome o (λ v. (negsuc 2305843009213693951 ≤ℤ v) × (v ≤ℤ pos 2305843009213693952))

pub record ModerateRow (k : ℕ) (row : List (Option ℤ)) : Type 0 where
  pub each : (j : ℕ) → j < k → Moderate (entry row j)

pub record ModerateRows (k : ℕ) (t : List (List (Option ℤ))) : Type 0 where
  pub each : (i : ℕ) → i < k → ModerateRow k (slice_index_or t i [])

-- the row r by way of another column, leg away
pub record Relaxed (k : ℕ) (r through : List (Option ℤ)) (leg : Option ℤ) (out : List (Option ℤ)) : Type 0 where
  pub is : (j : ℕ) → j < k → entry out j ≡ shorter (entry r j) (joined leg (entry through j))

-- each entry lies from -b to b
abbrev pub Within : ℕ → Option ℤ → Type 0
Within b o = IfSome o (λ v. (pos 0 ≤ℤ (v +ℤ pos b)) × (v ≤ℤ pos b))

pub record Bounded (k b : ℕ) (d : ℕ → ℕ → Option ℤ) : Type 0 where
  pub each : (i j : ℕ) → i < k → j < k → Within b (d i j)

-- no walk is entered yet
pub record Blank (k : ℕ) (t : List (List (Option ℤ))) : Type 0 where
  pub none : (i j : ℕ) → i < k → j < k → at t i j ≡ None

-- the links name columns below k, and their bounds lie from -60,000,000 to 60,000,000
pub record GoodLinks (k : ℕ) (links : List Link) : Type 0 where
  pub right : (l : Link) → ContainsAt links l → l.right < k
  pub left : (l : Link) → ContainsAt links l → l.left < k
  pub low : (l : Link) → ContainsAt links l → negsuc 59999999 ≤ℤ l.bound
  pub high : (l : Link) → ContainsAt links l → l.bound ≤ℤ pos 60000000

-- the table that was entered from the links
pub record Entered (k : ℕ) (links : List Link) (d : ℕ → ℕ → Option ℤ) : Type 0 where
  pub bounded : Bounded k 60000000 d
  pub walks : Walks k links 0 d

-- the smallest number below k at which f is true, if there is any
abbrev pub FirstBelow : ℕ → (ℕ → Bool) → Option ℕ → Type 0
FirstBelow k f None = (i : ℕ) → i < k → f i ≡ false
FirstBelow k f (Some i) = (i < k) × (f i ≡ true) × ((j : ℕ) → j < i → f j ≡ false)
