-- The steps by which a table of rows is filled and closed.
use Rattle.std.specs.Prelude.{◌≡◌, ℕ, ◌<◌, List, [], length, ℤ, pos, negsuc, ◌+ℤ◌, ◌≤ℤ◌, ◌<ℤ◌, ◌≢◌, slice_index_or}
use Rattle.std.specs.Int.{int_min}
use Rattle.differences.specs.declared.link.Link.{Link}
use Rattle.differences.specs.Tables.{entry, Near, Obeys, Closed}

-- k values
pub record Values (k : ℕ) (x : ℕ → ℤ) : Type 0 where
  pub low : (i : ℕ) → i < k → negsuc 29999999 ≤ℤ x i
  pub high : (i : ℕ) → i < k → x i ≤ℤ pos 30000000

-- no entry of the row, and of the table, is out of range
pub record NearRow (k : ℕ) (row : List ℤ) : Type 0 where
  pub near : (j : ℕ) → j < k → Near (slice_index_or row j (pos 0))

pub record NearRows (k : ℕ) (rows : List (List ℤ)) : Type 0 where
  pub near : (i : ℕ) → i < k → NearRow k (slice_index_or rows i [])

-- each of 32 columns is as far from each as two values can be
pub record AllFar (rows : List (List ℤ)) : Type 0 where
  pub far : (i j : ℕ) → i < 32 → j < 32 → entry rows i j ≡ pos 60000000

-- the table that binds no two values: 0 on the diagonal, 60,000,000 elsewhere
pub record Unlinked (rows : List (List ℤ)) : Type 0 where
  pub zeros : (i : ℕ) → i < 32 → entry rows i i ≡ pos 0
  pub far : (i j : ℕ) → i < 32 → j < 32 → (i ≢ j) → entry rows i j ≡ pos 60000000

-- the link at an index
abbrev pub link_at : List Link → ℕ → Link
link_at ls n = slice_index_or ls n (record { left = 0; right = 0; bound = pos 0 })

-- the values x keep the first n links
pub record KeepsLinks (ls : List Link) (n : ℕ) (x : ℕ → ℤ) : Type 0 where
  pub link : (q : ℕ) → q < n → x (link_at ls q).left ≤ℤ (x (link_at ls q).right +ℤ (link_at ls q).bound)

-- each link joins two different ones of k columns, and its bound is a difference of values
pub record GoodLinks (k : ℕ) (ls : List Link) : Type 0 where
  pub left : (q : ℕ) → q < length ls → (link_at ls q).left < k
  pub right : (q : ℕ) → q < length ls → (link_at ls q).right < k
  pub two : (q : ℕ) → q < length ls → (link_at ls q).left ≢ (link_at ls q).right
  pub near : (q : ℕ) → q < length ls → Near (link_at ls q).bound

-- the rows say of values what the first n links say
pub record Entered (k : ℕ) (ls : List Link) (n : ℕ) (rows : List (List ℤ)) : Type 0 where
  pub near : NearRows k rows
  pub zeros : (i : ℕ) → i < k → entry rows i i ≡ pos 0
  pub on : (x : ℕ → ℤ) → Values k x → KeepsLinks ls n x → Obeys k (entry rows) x
  pub back : (x : ℕ → ℤ) → Obeys k (entry rows) x → KeepsLinks ls n x

-- the new row is the old one, or shorter by way of a column that is leg away and has the row through
pub record Relaxed (k : ℕ) (old through : List ℤ) (leg : ℤ) (new : List ℤ) : Type 0 where
  pub near : NearRow k new
  pub is : (j : ℕ) → j < k → slice_index_or new j (pos 0) ≡ int_min (slice_index_or old j (pos 0)) (leg +ℤ slice_index_or through j (pos 0))

-- some column lies farther by that way than any two values differ
pub record TooFar (k : ℕ) (through : List ℤ) (leg : ℤ) : Type 0 where
  pub column : ℕ
  pub within : column < k
  pub far : (leg +ℤ slice_index_or through column (pos 0)) <ℤ negsuc 59999999

-- e is d, or shorter by way of column m
pub record Stepped (k m : ℕ) (d e : ℕ → ℕ → ℤ) : Type 0 where
  pub is : (i j : ℕ) → i < k → j < k → e i j ≡ int_min (d i j) (d i m +ℤ d m j)
  pub diagonal : (i : ℕ) → i < k → pos 0 ≤ℤ e i i

-- no values obey the table
pub record NoValues (k : ℕ) (rows : List (List ℤ)) : Type 0 where
  pub none : (x : ℕ → ℤ) → Values k x → Obeys k (entry rows) x → ⊥

-- the new rows say what the old ones say, and are closed
pub record ClosedFrom (k : ℕ) (old new : List (List ℤ)) : Type 0 where
  pub closed : Closed k (entry new)
  pub on : (x : ℕ → ℤ) → Obeys k (entry old) x → Obeys k (entry new) x
  pub back : (x : ℕ → ℤ) → Obeys k (entry new) x → Obeys k (entry old) x
