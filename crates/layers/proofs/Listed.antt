-- Going through a list of rules: the first i of them, and one more.
use Rattle.std.proofs.Common.{◌≡◌, ℕ, ◌+◌, ◌<◌, ◌≤◌, max, List, [], ◌∷◌, ◌++◌, map, length, get_or, take, Ok, sym, ap, ◌∙◌, subst, arith}
use Rattle.std.proofs.lemmas.List.{length-map, map-append, get_or-map, take_more, take_all}
use Rattle.rules.specs.declared.window.Window.{Window}
use Rattle.rules.specs.declared.verdict.Verdict.{Verdict}
use Rattle.rules.specs.Meaning.{Meaning, Narrowed}
use Rattle.layers.specs.Leading.{on_leading}
use Rattle.layers.specs.Joining.{most_columns, Turn, Turned}
use Rattle.layers.proofs.Turns.{turn_asked, columns_le}

-- x is the i-th of the rules xs, and f says what a rule means
module _ {X : Type 0} (f : X → Meaning) (xs : List X) (i : ℕ) (x : X) (l : i < length xs) (is : x ≡ get_or xs i x) where
  here : i < length (map f xs)
  here = simp length-map l

  means : get_or (map f xs) i (f x) ≡ f x
  means = get_or-map f xs i x (f x) l ∙ ap f (sym is)

  next : take (i + 1) (map f xs) ≡ take i (map f xs) ++ f x ∷ []
  next = take_more (map f xs) i (f x) here ∙ ap (λ (m : Meaning). take i (map f xs) ++ m ∷ []) means

  -- it has room where all have
  pub next_room : (n : ℕ) → most_columns (map f xs) ≤ n → (f x).scope.width ≤ n
  next_room n h = omega (arith, columns_le (map f xs) i (f x) here, ap (λ (m : Meaning). m.scope.width) means)

  -- it is asked after the first i
  pub next_asked : (k : ℕ) (vs us ws : List Window) (v : Verdict) → Turn (take i (map f xs)) vs us → Narrowed (on_leading k (f x)) us (Ok v) ws → Turned (take (i + 1) (map f xs)) vs v ws
  next_asked k vs us ws v t n = subst (λ (ms : List Meaning). Turned ms vs v ws) (sym next) (turn_asked (f x) k (take i (map f xs)) vs us ws t v n)

-- after the last
module _ {X : Type 0} (f : X → Meaning) (xs : List X) (i : ℕ) (l : length xs ≤ i) where
  all_asked : take i (map f xs) ≡ map f xs
  all_asked = take_all i (map f xs) (simp length-map l)

  pub turn_done : (vs ws : List Window) → Turn (take i (map f xs)) vs ws → Turn (map f xs) vs ws
  turn_done vs ws t = subst (λ (ms : List Meaning). Turn ms vs ws) all_asked t

-- no list of rules has fewer than one column
pub some_columns : (ms : List Meaning) → 1 ≤ most_columns ms
some_columns [] = omega arith
some_columns (m ∷ ms) = let r = some_columns ms in omega arith

-- the largest number of columns, with one rule more
pub most_more : (ms : List Meaning) (m : Meaning) → most_columns (ms ++ m ∷ []) ≡ max (most_columns ms) m.scope.width
most_more [] m = omega arith
most_more (n ∷ ms) m = let r = most_more ms m in omega arith

-- the largest number of columns of the rules xs, which were asked for theirs
pub record SoFar {X : Type 0} (f : X → Meaning) (xs : List X) (most : ℕ) : Type 0 where
  pub is : most ≡ most_columns (map f xs)
  pub some : 1 ≤ most
  pub few : most ≤ 32

-- one rule more was asked, and has 1 to 32
pub so_far_more : {X : Type 0} (f : X → Meaning) (xs : List X) (x : X) (a b : ℕ) → SoFar f xs a → b ≡ max a (f x).scope.width → 1 ≤ (f x).scope.width → (f x).scope.width ≤ 32 → SoFar f (xs ++ x ∷ []) b
so_far_more f xs x a b s larger some few =
    record {
      is = omega (arith, ap most_columns (map-append f xs (x ∷ [])), most_more (map f xs) (f x), s.is);
      some = omega (arith, s.some);
      few = omega (arith, s.few);
    }
