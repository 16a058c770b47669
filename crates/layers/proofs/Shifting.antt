-- Shifts added to plans and windows, and windows cut to the values.
use Rattle.std.proofs.Common.{◌≡◌, ℕ, zero, suc, ◌<◌, true, List, [], ◌∷◌, map, length, ℤ, pos, ◌+ℤ◌, neg_ℤ, refl, ap, ◌∙◌, arith, rules}
use Rattle.std.proofs.lemmas.Int.{ints, clamps}
use Rattle.std.proofs.lemmas.Bool.{and_from}
use Rattle.std.proofs.lemmas.List.{get_or-map}
use Rattle.rules.specs.declared.window.Window.{Window}
use Rattle.rules.specs.Plans.{all_lawful, window_at, value_at, lies, inside, Single}
use Rattle.rules.proofs.Windows.{Within, within_test, inside-length, inside_at, lawful_at, lawful_ends}
use Rattle.layers.specs.Offset.{shifted, all_values, shift_window, shift_windows, cut}
use Rattle.layers.proofs.Mirroring.{value_turned}

-- the shifts that undo others
abbrev pub back : List ℤ → List ℤ
back ss = map neg_ℤ ss

pub length_windows : (ss : List ℤ) (ws : List Window) → length (shift_windows ss ws) ≡ length ws
length_windows [] ws = refl
length_windows (s ∷ ss) [] = refl
length_windows (s ∷ ss) (w ∷ ws) = ap suc (length_windows ss ws)

pub value_shifted : (ss x : List ℤ) (i : ℕ) → i < length x → value_at (shifted ss x) i ≡ value_at x i +ℤ value_at ss i
value_shifted [] x i l = omega (arith, ints)
value_shifted (s ∷ ss) [] i l = absurd (omega arith)
value_shifted (s ∷ ss) (v ∷ x) zero l = refl
value_shifted (s ∷ ss) (v ∷ x) (suc i) l = value_shifted ss x i (omega arith)

pub zero_shift : (v : ℤ) → v ≡ v +ℤ pos 0
zero_shift v = omega (arith, ints)

pub window_shifted : (ss : List ℤ) (ws : List Window) (i : ℕ) → i < length ws → window_at (shift_windows ss ws) i ≡ shift_window (value_at ss i) (window_at ws i)
window_shifted [] ws i l = λ j. record { first = zero_shift (window_at ws i).first j; last = zero_shift (window_at ws i).last j }
window_shifted (s ∷ ss) [] i l = absurd (omega arith)
window_shifted (s ∷ ss) (w ∷ ws) zero l = refl
window_shifted (s ∷ ss) (w ∷ ws) (suc i) l = window_shifted ss ws i (omega arith)

pub there_back : (v s : ℤ) → (v +ℤ neg_ℤ s) +ℤ s ≡ v
there_back v s = omega (arith, ints)

pub plan_back : (ss y : List ℤ) → shifted ss (shifted (back ss) y) ≡ y
plan_back [] y = refl
plan_back (s ∷ ss) [] = refl
plan_back (s ∷ ss) (v ∷ y) = λ i. there_back v s i ∷ plan_back ss y i

pub windows_back : (ss : List ℤ) (ws : List Window) → shift_windows ss (shift_windows (back ss) ws) ≡ ws
windows_back [] ws = refl
windows_back (s ∷ ss) [] = refl
windows_back (s ∷ ss) (w ∷ ws) = λ i. record { first = there_back w.first s i; last = there_back w.last s i } ∷ windows_back ss ws i

pub lies-shifted : (ss x : List ℤ) (ws : List Window) → lies (shifted ss x) (shift_windows ss ws) ≡ lies x ws
lies-shifted [] x ws = refl
lies-shifted (s ∷ ss) [] [] = refl
lies-shifted (s ∷ ss) [] (w ∷ ws) = refl
lies-shifted (s ∷ ss) (v ∷ x) [] = refl
lies-shifted (s ∷ ss) (v ∷ x) (w ∷ ws) = let r = lies-shifted ss x ws in grind (arith, ints)

pub inside-shifted : (ss : List ℤ) (us ws : List Window) → inside (shift_windows ss us) (shift_windows ss ws) ≡ inside us ws
inside-shifted [] us ws = refl
inside-shifted (s ∷ ss) [] [] = refl
inside-shifted (s ∷ ss) [] (w ∷ ws) = refl
inside-shifted (s ∷ ss) (u ∷ us) [] = refl
inside-shifted (s ∷ ss) (u ∷ us) (w ∷ ws) = let r = inside-shifted ss us ws in grind (arith, ints)

pub single_shifted : (ss : List ℤ) (ws : List Window) → Single ws → Single (shift_windows ss ws)
single_shifted ss ws s i l = let here : i < length ws = omega (arith, length_windows ss ws) in rw (window_shifted ss ws i here) (ap (λ (v : ℤ). v +ℤ value_at ss i) (s i here))

-- windows cut to the values
pub cut_within : (w : Window) → Within (cut w) w
cut_within w = record { low = omega (arith, ints, clamps); high = omega (arith, ints, clamps) }

pub inside-cut : (ws : List Window) → inside (map cut ws) ws ≡ true
inside-cut [] = refl
inside-cut (w ∷ ws) = and_from _ _ (within_test (cut w) w (cut_within w)) (inside-cut ws)

pub lies-cut : (x : List ℤ) (ws : List Window) → all_values x ≡ true → lies x ws ≡ true → lies x (map cut ws) ≡ true
lies-cut [] [] a h = refl
lies-cut [] (w ∷ ws) a h = search rules
lies-cut (v ∷ x) [] a h = search rules
lies-cut (v ∷ x) (w ∷ ws) a h = let r = lies-cut x ws in grind (arith, ints, clamps)

-- where a plan lies in cut windows, they are lawful
pub lawful-cut : (x : List ℤ) (ws : List Window) → lies x (map cut ws) ≡ true → all_lawful (map cut ws) ≡ true
lawful-cut [] [] h = refl
lawful-cut [] (w ∷ ws) h = search rules
lawful-cut (v ∷ x) [] h = search rules
lawful-cut (v ∷ x) (w ∷ ws) h = let r = lawful-cut x ws in grind (arith, ints, clamps)

-- a plan in lawful windows is made of values
pub all_values_in : (x : List ℤ) (ws : List Window) → all_lawful ws ≡ true → lies x ws ≡ true → all_values x ≡ true
all_values_in [] ws a h = refl
all_values_in (v ∷ x) [] a h = search rules
all_values_in (v ∷ x) (w ∷ ws) a h = let r = all_values_in x ws in grind (arith, ints)

-- windows inside lawful ones are lawful where a plan lies in them
pub lawful-inside : (x : List ℤ) (ws vs : List Window) → lies x ws ≡ true → inside ws vs ≡ true → all_lawful vs ≡ true → all_lawful ws ≡ true
lawful-inside x [] vs h i a = refl
lawful-inside x (w ∷ ws) [] h i a = search rules
lawful-inside [] (w ∷ ws) (v ∷ vs) h i a = search rules
lawful-inside (y ∷ x) (w ∷ ws) (v ∷ vs) h i a = let r = lawful-inside x ws vs in grind (arith, ints)

pub single_inside : (us ws : List Window) → inside us ws ≡ true → all_lawful us ≡ true → Single ws → Single us
single_inside us ws h a s i l =
    let within = inside_at us ws i h l in
    let ends = lawful_ends (window_at us i) (lawful_at us i a l) in
    let one = s i (omega (arith, inside-length us ws h)) in
    omega (arith, ints, ends.order)

-- what a column's window becomes below a layer, and above it again
abbrev pub to_below : List ℤ → ℕ → Window → Window
to_below ss k w = cut (shift_window (value_at ss k) w)

abbrev pub to_above : List ℤ → ℕ → Window → Window
to_above ss k w = shift_window (neg_ℤ (value_at ss k)) w

pub all_below : (ss : List ℤ) (ws : List Window) (k : ℕ) → k < length ws → window_at (map cut (shift_windows ss ws)) k ≡ to_below ss k (window_at ws k)
all_below ss ws k l = get_or-map cut (shift_windows ss ws) k _ _ (omega (arith, length_windows ss ws)) ∙ ap cut (window_shifted ss ws k l)

pub all_above : (ss : List ℤ) (ys : List Window) (k : ℕ) → k < length ys → window_at (shift_windows (back ss) ys) k ≡ to_above ss k (window_at ys k)
all_above ss ys k l = window_shifted (back ss) ys k l ∙ ap (λ (s : ℤ). shift_window s (window_at ys k)) (value_turned ss k)
