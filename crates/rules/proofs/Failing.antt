-- The first entry that fails a test, and the refusal of windows.
use Rattle.std.proofs.Common.{◌≡◌, ℕ, zero, suc, ◌+◌, Bool, true, false, not, cond, eqb, List, [], ◌∷◌, length, Some, None, Ok, Err, Option, MatchOption, Bor, Iter, refl, ap, ◌∙◌, arith}
use Rattle.std.specs.Option.{option_map}
use denote.Param.Members.{Mut}
use Rattle.std.specs.Fn.{Called}
use Rattle.std.specs.Iterator.{YieldsThen}
use Rattle.std.specs.Slice.Iter.{iter_rest}
use Rattle.std.specs.List.{AllWithin, FoldsTo}
use Rattle.std.proofs.lemmas.Fn.{fronts}
use Rattle.std.proofs.lemmas.Iterator.{YieldsList-from_slice}
use Rattle.std.proofs.lemmas.Iterator.Search.{position_from_yields_List}
use Rattle.std.specs.List.{position, position_from}
use Rattle.std.proofs.lemmas.Iterator.Adapters.{position_from-zero}
use Rattle.std.proofs.lemmas.Bool.{and_from, and_parts, eqb-true, eqb-false, eq-eqb}
use Rattle.std.proofs.lemmas.Bool.Decides.{nat_tests}
use Rattle.rules.specs.declared.window.Window.{Window}
use Rattle.rules.specs.declared.fault.Fault.{Fault}
use Rattle.rules.specs.declared.fault.Fault.TheVariants.{UnlawfulWindow, WindowCount}
use Rattle.rules.specs.Plans.{lawful, all_lawful}
use Rattle.rules.specs.Refusals.{first_failing, First, Finds, unless, at_first, answer, window_refusal, counted, Counted, Judged, unlawful, wrong_count, accepted}

-- something is not nothing
pub some_none : {X : Type 0} {x : X} → ◌≡◌ {A = Option X} (Some x) None → ⊥
some_none e = let z : ◌≡◌ {A = ℕ} 0 1 = cc in omega arith

module _ {X : Type 0} (test : X → Bool) where
  pub every_cons : (x : X) (xs : List X) (n : ℕ) → test x ≡ true → AllWithin (λ y. test y ≡ true) xs 0 n → AllWithin (λ y. test y ≡ true) (x ∷ xs) 0 (suc n)
  every_cons x xs n e f zero d l h = e
  every_cons x xs n e f (suc k) d l h = f k d (omega arith) (omega arith)

  finds_tail : (x : X) (xs : List X) (o : Option ℕ) → test x ≡ true → Finds test xs o → Finds test (x ∷ xs) (option_map suc o)
  finds_tail x xs None e f = every_cons x xs (length xs) e f
  finds_tail x xs (Some i) e f = record { within = omega (arith, f.within); fails = f.fails; before = every_cons x xs i e f.before }

  finds_either : (x : X) (xs : List X) (o : Option ℕ) (b : Bool) → test x ≡ b → Finds test xs o → Finds test (x ∷ xs) (cond b (option_map suc o) (Some 0))
  finds_either x xs o true e f = finds_tail x xs o e f
  finds_either x xs o false e f = record { within = omega arith; fails = λ d. e; before = λ k d l h. absurd (omega arith) }

  -- what is found is the first that fails
  pub finds_first : (xs : List X) → Finds test xs (first_failing test xs)
  unfolding first_failing
  finds_first [] = λ k d l h. absurd (omega arith)
  finds_first (x ∷ xs) = finds_either x xs (first_failing test xs) (test x) refl (finds_first xs)

  -- the first is found
  pub first_found : (xs : List X) (i : ℕ) → First test xs i → first_failing test xs ≡ Some i
  unfolding first_failing
  first_found [] i f = absurd (omega (arith, f.within))
  first_found (x ∷ xs) zero f = ap (λ b. cond b (option_map suc (first_failing test xs)) (Some 0)) (f.fails x)
  first_found (x ∷ xs) (suc i) f =
      ap (λ b. cond b (option_map suc (first_failing test xs)) (Some 0)) (f.before 0 x (omega arith) (omega arith))
      ∙ ap (option_map suc) (first_found xs i (record { within = omega (arith, f.within); fails = f.fails; before = λ k d l h. f.before (suc k) d (omega arith) (omega arith) }))

  pub none_found : (xs : List X) → AllWithin (λ y. test y ≡ true) xs 0 (length xs) → first_failing test xs ≡ None
  unfolding first_failing
  none_found [] f = refl
  none_found (x ∷ xs) f =
      ap (λ b. cond b (option_map suc (first_failing test xs)) (Some 0)) (f 0 x (omega arith) (omega arith))
      ∙ ap (option_map suc) (none_found xs (λ k d l h. f (suc k) d (omega arith) (omega arith)))

  -- the library's way of finding it
  from_head : (i : ℕ) (b : Bool) (o : Option ℕ) (r : Option ℕ) → r ≡ option_map (λ k. suc i + k) o → cond (not b) (Some i) r ≡ option_map (λ k. i + k) (cond b (option_map suc o) (Some 0))
  from_head i true None r e = e
  from_head i true (Some k) r e = e ∙ ap Some (omega arith)
  from_head i false o r e = ap Some (omega arith)

  from_failing : (i : ℕ) (xs : List X) → position_from (λ x. not (test x)) i xs ≡ option_map (λ k. i + k) (first_failing test xs)
  unfolding first_failing
  from_failing i [] = refl
  from_failing i (x ∷ xs) = from_head i (test x) (first_failing test xs) _ (ap (λ n. position_from (λ y. not (test y)) n xs) (omega arith) ∙ from_failing (suc i) xs)

  option_same : (o : Option ℕ) → option_map (λ k. 0 + k) o ≡ o
  option_same None = refl
  option_same (Some k) = ap Some (omega arith)

  position_failing : (xs : List X) → position (λ x. not (test x)) xs ≡ first_failing test xs
  position_failing xs = position_from-zero (λ x. not (test x)) xs ∙ from_failing 0 xs ∙ option_same (first_failing test xs)

-- what `position` finds in a slice for a closure that fails where the test does
module _ {X F : Type 0} {g : Mut F (Bor X × Unit {0}) Bool} {s : Iter X} (test : X → Bool) (xs : List X) (u : Iter X) (f : F) where
  pub first_by : (r : Option ℕ)
      → (ys : List (Bor X)) × (o : Option (Bor X)) × (j : F) × YieldsThen fronts s ys o u × FoldsTo (λ p y q. Called g p (y, tt) false q) f ys j × MatchOption o (r ≡ None) (λ y. (r ≡ Some (length ys)) × ((h : F) × Called g j (y, tt) true h))
      → iter_rest s ≡ xs → ((y : Bor X) (b : Bool) (q : F) → Called g f (y, tt) b q → (q ≡ f) × (b ≡ not (test y.now))) → r ≡ first_failing test xs
  first_by r ran rest called = position_from_yields_List (λ x. not (test x)) u f r ran (YieldsList-from_slice xs rest) called ∙ position_failing test xs

pub every_lawful : (ws : List Window) → AllWithin (λ w. lawful w ≡ true) ws 0 (length ws) → all_lawful ws ≡ true
every_lawful [] f = refl
every_lawful (w ∷ ws) f = and_from _ _ (f 0 w (omega arith) (omega arith)) (every_lawful ws (λ k d l h. f (suc k) d (omega arith) (omega arith)))

pub lawful_every : (ws : List Window) → all_lawful ws ≡ true → AllWithin (λ w. lawful w ≡ true) ws 0 (length ws)
lawful_every [] e k d l h = absurd (omega arith)
lawful_every (w ∷ ws) e zero d l h = (and_parts _ _ e).0
lawful_every (w ∷ ws) e (suc k) d l h = lawful_every ws (and_parts _ _ e).1 k d (omega arith) (omega arith)

judge_count : (k : ℕ) (ws : List Window) (b : Bool) → eqb (length ws) k ≡ b → all_lawful ws ≡ true → Judged k ws (unless b WindowCount None)
judge_count k ws true e h = accepted h (eqb-true _ _ e)
judge_count k ws false e h = wrong_count h (eqb-false _ _ e)

judge : (k : ℕ) (ws : List Window) (o : Option ℕ) → Finds lawful ws o → Judged k ws (at_first UnlawfulWindow o (unless (eqb (length ws) k) WindowCount None))
judge k ws None f = judge_count k ws (eqb (length ws) k) refl (every_lawful ws f)
judge k ws (Some i) f = unlawful i f

-- the refusal of windows says what its words say
pub judged : (k : ℕ) (ws : List Window) → Judged k ws (window_refusal k ws)
unfolding window_refusal
judged k ws = judge k ws (first_failing lawful ws) (finds_first lawful ws)

-- lawful windows in the right number are taken
pub takes : (k : ℕ) (ws : List Window) → all_lawful ws ≡ true → length ws ≡ k → window_refusal k ws ≡ None
unfolding window_refusal
takes k ws h e =
    ap (λ o. at_first UnlawfulWindow o (unless (eqb (length ws) k) WindowCount None)) (none_found lawful ws (lawful_every ws h))
    ∙ ap (λ b. unless b WindowCount None) (eq-eqb _ _ e)

taken_facts : (k : ℕ) (ws : List Window) (o : Option Fault) → o ≡ None → Judged k ws o → (all_lawful ws ≡ true) × (length ws ≡ k)
taken_facts k ws _ e (unlawful i f) = let z : ◌≡◌ {A = ℕ} 0 1 = cc in absurd (omega arith)
taken_facts k ws _ e (wrong_count h n) = let z : ◌≡◌ {A = ℕ} 0 1 = cc in absurd (omega arith)
taken_facts k ws _ e (accepted h l) = (h, l)

-- and only those
pub taken : (k : ℕ) (ws : List Window) → window_refusal k ws ≡ None → (all_lawful ws ≡ true) × (length ws ≡ k)
taken k ws e = taken_facts k ws (window_refusal k ws) e (judged k ws)

-- what an answer says of the refusal
pub answer_err : (o : Option Fault) (f : Fault) → answer o ≡ Err f → o ≡ Some f
answer_err None f e = cc
answer_err (Some g) f e = cc

pub answer_ok : (o : Option Fault) → answer o ≡ Ok tt → o ≡ None
answer_ok None e = refl
answer_ok (Some g) e = cc

-- a number of columns that no board has fails the test
uncounted_by : (k : ℕ) (b : Bool) → counted k ≡ b → (Counted k → ⊥) → b ≡ false
uncounted_by k true e none = absurd (none (grind (arith, nat_tests), grind (arith, nat_tests)))
uncounted_by k false e none = refl

pub uncounted : (k : ℕ) → (Counted k → ⊥) → counted k ≡ false
uncounted k none = uncounted_by k (counted k) refl none
