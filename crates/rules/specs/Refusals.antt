-- Which fault a call answers. Tests come in the order of the faults' numbers, so that of several the smallest is answered.
use Rattle.std.specs.Prelude.{◌≡◌, ℕ, suc, ◌<◌, ◌≤◌, Bool, true, false, cond, ◌&&◌, List, [], ◌∷◌, length, Some, None, Ok, Err, Option, Result, ◌==◌, ◌≢◌, nat_le}
use Rattle.std.specs.Option.{option_map}
use Rattle.std.specs.List.{HoldsAt, AllWithin}
use Rattle.rules.specs.declared.window.Window.{Window}
use Rattle.rules.specs.declared.fault.Fault.{Fault}
use Rattle.rules.specs.declared.fault.Fault.TheVariants.{UnlawfulWindow, WindowCount}
use Rattle.rules.specs.Plans.{lawful, all_lawful}

-- the index of the first entry that fails the test
unfoldable pub first_failing : {X : Type 0} → (X → Bool) → List X → Option ℕ
first_failing test [] = None
first_failing test (x ∷ xs) = cond (test x) (option_map suc (first_failing test xs)) (Some 0)

-- i is that index: the entry there fails the test, and all before it pass
pub record First {X : Type 0} (test : X → Bool) (xs : List X) (i : ℕ) : Type 0 where
  pub within : i < length xs
  pub fails : HoldsAt (λ x. test x ≡ false) xs i
  pub before : AllWithin (λ x. test x ≡ true) xs 0 i

-- there is none, or the index is that of the first
abbrev pub Finds : {X : Type 0} → (X → Bool) → List X → Option ℕ → Type 0
Finds test xs None = AllWithin (λ x. test x ≡ true) xs 0 (length xs)
Finds test xs (Some i) = First test xs i

-- the fault f unless the test passes, and then what comes after it
abbrev pub unless : Bool → Fault → Option Fault → Option Fault
unless true f rest = rest
unless false f rest = Some f

-- the fault of the entry that failed, and if none failed what comes after it
abbrev pub at_first : (ℕ → Fault) → Option ℕ → Option Fault → Option Fault
at_first f None rest = rest
at_first f (Some i) rest = Some (f i)

-- what a call answers that has no other answer
abbrev pub answer : Option Fault → Result (Unit {0}) Fault
answer None = Ok tt
answer (Some f) = Err f

-- a board has 1 to 32 columns: the test, and the same in words
abbrev pub counted : ℕ → Bool
counted k = nat_le 1 k && nat_le k 32

abbrev pub Counted : ℕ → Type 0
Counted k = (1 ≤ k) × (k ≤ 32)

-- the fault of a list of windows that is offered to a rule of k columns
unfoldable pub window_refusal : ℕ → List Window → Option Fault
window_refusal k ws = at_first UnlawfulWindow (first_failing lawful ws) (unless (length ws == k) WindowCount None)

-- the same in words: the first unlawful window, then the wrong number, then none
pub data Judged (k : ℕ) (ws : List Window) : Option Fault → Type 0 where
  unlawful : (i : ℕ) → First lawful ws i → Judged k ws (Some (UnlawfulWindow i))
  wrong_count : all_lawful ws ≡ true → (length ws ≢ k) → Judged k ws (Some WindowCount)
  accepted : all_lawful ws ≡ true → length ws ≡ k → Judged k ws None
