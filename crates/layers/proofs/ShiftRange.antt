-- The range of shifts, and which of them are set.
use Rattle.std.proofs.Common.{◌≡◌, ℕ, zero, suc, ◌≤◌, Bool, true, false, leb, List, [], ◌∷◌, length, ℤ, pos, negsuc, ◌≤ℤ◌, Some, None, Option, refl, arith}
use Rattle.std.proofs.lemmas.Int.{ints}
use Rattle.std.proofs.lemmas.Bool.{and_parts, and_from, leb-true, leb-false}
use Rattle.std.specs.List.{AllWithin}
use Rattle.rules.specs.declared.fault.Fault.{Fault}
use Rattle.rules.specs.declared.fault.Fault.TheVariants.{ListLength, OutOfRange}
use Rattle.rules.specs.Plans.{value_at}
use Rattle.rules.specs.Refusals.{first_failing, Finds, unless, at_first}
use Rattle.rules.proofs.Failing.{finds_first}
use Rattle.layers.specs.Offset.{is_shift, all_shifts, offset_refusal, OffsetJudged, too_many, out_of_range, accepted}

-- the range of a shift
pub record Near (s : ℤ) : Type 0 where
  pub low : negsuc 59999999 ≤ℤ s
  pub high : s ≤ℤ pos 60000000

pub shift_range : (s : ℤ) → is_shift s ≡ true → Near s
shift_range s h = record { low = grind (arith, ints); high = grind (arith, ints) }

pub shift_at : (ss : List ℤ) (i : ℕ) → all_shifts ss ≡ true → is_shift (value_at ss i) ≡ true
shift_at [] i h = refl
shift_at (s ∷ ss) zero h = (and_parts _ _ h).0
shift_at (s ∷ ss) (suc i) h = shift_at ss i (and_parts _ _ h).1

every_shift : (ss : List ℤ) → AllWithin (λ s. is_shift s ≡ true) ss 0 (length ss) → all_shifts ss ≡ true
every_shift [] f = refl
every_shift (s ∷ ss) f = and_from _ _ (f 0 s (omega arith) (omega arith)) (every_shift ss (λ k d l h. f (suc k) d (omega arith) (omega arith)))

-- the refusal of shifts says what its words say
module _ (k : ℕ) (ss : List ℤ) where
  judge_range : length ss ≤ k → (o : Option ℕ) → Finds is_shift ss o → OffsetJudged k ss (at_first OutOfRange o None)
  judge_range n None f = accepted n (every_shift ss f)
  judge_range n (Some i) f = out_of_range i n f

  judge_count : (b : Bool) → leb (length ss) k ≡ b → OffsetJudged k ss (unless b ListLength (at_first OutOfRange (first_failing is_shift ss) None))
  judge_count true e = judge_range (leb-true _ _ e) (first_failing is_shift ss) (finds_first is_shift ss)
  judge_count false e = too_many (leb-false _ _ e)

  pub offset_judged : OffsetJudged k ss (offset_refusal k ss)
  unfolding offset_refusal
  offset_judged = judge_count (leb (length ss) k) refl

-- shifts that are not refused
pub shifts_taken : (k : ℕ) (ss : List ℤ) → offset_refusal k ss ≡ None → (length ss ≤ k) × (all_shifts ss ≡ true)
shifts_taken k ss e = by_words (offset_refusal k ss) e (offset_judged k ss)
  where
    by_words : (o : Option Fault) → o ≡ None → OffsetJudged k ss o → (length ss ≤ k) × (all_shifts ss ≡ true)
    by_words _ n (too_many l) = let z : ◌≡◌ {A = ℕ} 0 1 = cc in absurd (omega arith)
    by_words _ n (out_of_range i l f) = let z : ◌≡◌ {A = ℕ} 0 1 = cc in absurd (omega arith)
    by_words _ n (accepted l f) = (l, f)
