-- Minutes rounded to the quarter hour.
use Rattle.std.proofs.Common.{◌≡◌, ℕ, ◌*◌, ◌/◌, ◌%◌, ◌≤◌, min, max, true, ◌&&◌, eqb, leb, ℤ, pos, negsuc, ◌≤ℤ◌, sym, ap, ◌∙◌, subst, arith, rules}
use Rattle.std.specs.Int.{int_max, div_ceil}
use Rattle.std.proofs.lemmas.Int.{ints, clamps}
use Rattle.std.proofs.lemmas.Bool.{and_parts, and_from, leb-true, le-leb, eqb-true, eq-eqb}
use Rattle.rules.specs.declared.window.Window.{Window}
use Rattle.depot.specs.Quarters.{starts, Quarters}

-- what the test says of a minute that passes it
record Start (opens closes n : ℕ) : Type 0 where
  after : opens ≤ n
  before : n ≤ closes
  quarter : n % 15 ≡ 0

start_from : (opens closes n : ℕ) → starts opens closes (pos n) ≡ true → Start opens closes n
start_from opens closes n h =
    let both = and_parts (leb opens n && leb n closes) (eqb (n % 15) 0) h in
    let hours = and_parts (leb opens n) (leb n closes) both.0 in
    record { after = leb-true _ _ hours.0; before = leb-true _ _ hours.1; quarter = eqb-true _ _ both.1 }

from_start : (opens closes n : ℕ) → Start opens closes n → starts opens closes (pos n) ≡ true
from_start opens closes n s = and_from _ _ (and_from _ _ (le-leb _ _ s.after) (le-leb _ _ s.before)) (eq-eqb _ _ s.quarter)

-- e is the first minute of the window v while the depot is open, and l the last; f and g are the ends of v, from 0 on
module _ (opens closes : ℕ) (v : Window) (f g e l : ℕ) (from : pos f ≡ int_max v.first (pos 0)) (until : pos g ≡ v.last) (earliest : e ≡ max opens f) (latest : l ≡ min closes g) where
  -- a start in v is not before e rounded up, and not after l rounded down
  start_between : (m : ℤ) → v.first ≤ℤ m → m ≤ℤ v.last → starts opens closes m ≡ true → (pos (div_ceil e 15 * 15) ≤ℤ m) × (m ≤ℤ pos (l / 15 * 15))
  start_between (pos n) low high h =
      let s = start_from opens closes n h in
      let after : e ≤ n = omega (arith, ints, clamps) in
      let before : n ≤ l = omega (arith, ints) in
      let rounded : (div_ceil e 15 * 15 ≤ n) × (n ≤ l / 15 * 15) = (omega arith, omega arith) in
      (omega (arith, ints), omega (arith, ints))
  start_between (negsuc n) low high h = search rules

  -- and where e rounded up is not after l rounded down, it is a start
  pub rounded : (w : Window) → div_ceil e 15 * 15 ≤ l / 15 * 15 → w.first ≡ pos (div_ceil e 15 * 15) → w.last ≡ pos (l / 15 * 15) → Quarters opens closes v w
  rounded w order first last =
      let start : Start opens closes (div_ceil e 15 * 15) = record { after = omega arith; before = omega arith; quarter = omega arith } in
      record {
        low = omega (arith, ints, clamps);
        order = omega (arith, ints);
        high = omega (arith, ints);
        keeps = λ m low high h. let b = start_between m low high h in (subst (λ (z : ℤ). z ≤ℤ m) (sym first) b.0, subst (λ (z : ℤ). m ≤ℤ z) (sym last) b.1);
        begins = ap (starts opens closes) first ∙ from_start opens closes _ start;
      }
