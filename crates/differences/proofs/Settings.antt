-- Which settings of two columns apart are accepted.
use Rattle.std.proofs.Common.{◌≡◌, ℕ, Bool, true, false, not, ◌&&◌, eqb, ltb, leb, ℤ, pos, None, Option, refl, arith, rules}
use lib.Signed.{le_z}
use Rattle.std.proofs.lemmas.Int.{ints}
use Rattle.std.proofs.lemmas.Bool.Decides.{nat_tests}
use Rattle.rules.specs.declared.fault.Fault.{Fault}
use Rattle.rules.specs.declared.fault.Fault.TheVariants.{ColumnCount, NoColumn, ColumnTwice, OutOfRange}
use Rattle.rules.specs.Refusals.{unless, Counted}
use Rattle.differences.specs.Apart.{There, InRange, ApartJudged, column_count, no_column, column_twice, out_of_range, accepted, apart_refusal}

module _ (columns one other : ℕ) (gap : ℤ) where
  abbrev Judged : Option Fault → Type 0
  Judged o = ApartJudged columns one other gap o

  judge_gap : (b : Bool) → (le_z (pos 1) gap && le_z gap (pos 60000000)) ≡ b → Counted columns → There columns one other → (one ≡ other → ⊥) → Judged (unless b (OutOfRange 0) None)
  judge_gap true e c t n = accepted c t n (grind (arith, ints), grind (arith, ints))
  judge_gap false e c t n = out_of_range c t n (λ r. grind (arith, ints))

  judge_two : (b : Bool) (rest : Option Fault) → not (eqb one other) ≡ b → Counted columns → There columns one other → ((one ≡ other → ⊥) → Judged rest) → Judged (unless b (ColumnTwice 0) rest)
  judge_two true rest e c t f = f (λ d. grind (arith, nat_tests))
  judge_two false rest e c t f = column_twice c t (grind (arith, nat_tests))

  judge_there : (b : Bool) (rest : Option Fault) → (ltb one columns && ltb other columns) ≡ b → Counted columns → (There columns one other → Judged rest) → Judged (unless b (NoColumn 0) rest)
  judge_there true rest e c f = f (grind (arith, nat_tests), grind (arith, nat_tests))
  judge_there false rest e c f = no_column c (λ t. grind (arith, nat_tests))

  judge_count : (b : Bool) (rest : Option Fault) → (leb 1 columns && leb columns 32) ≡ b → (Counted columns → Judged rest) → Judged (unless b ColumnCount rest)
  judge_count true rest e f = f (grind (arith, nat_tests), grind (arith, nat_tests))
  judge_count false rest e f = column_count (λ c. grind (arith, nat_tests))

  -- the refusal says what its words say
  pub judged : Judged (apart_refusal columns one other gap)
  unfolding apart_refusal
  judged =
      judge_count _ _ refl λ c.
      judge_there _ _ refl c λ t.
      judge_two _ _ refl c t λ n.
      judge_gap _ refl c t n

  -- what an accepted setting has
  pub record Set : Type 0 where
    pub counted : Counted columns
    pub there : There columns one other
    pub two : one ≡ other → ⊥
    pub in_range : InRange gap

  set_by : (o : Option Fault) → o ≡ None → Judged o → Set
  set_by _ e (column_count c) = search rules
  set_by _ e (no_column c t) = search rules
  set_by _ e (column_twice c t n) = search rules
  set_by _ e (out_of_range c t n r) = search rules
  set_by _ e (accepted c t n r) = record { counted = c; there = t; two = n; in_range = r }

  pub has_set : apart_refusal columns one other gap ≡ None → Set
  has_set e = set_by _ e judged
