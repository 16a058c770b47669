-- Windows and plans, column by column.
use Rattle.std.proofs.Common.{◌≡◌, ℕ, zero, suc, ◌<◌, true, ◌&&◌, List, [], ◌∷◌, map, length, set, ℤ, pos, negsuc, ◌≤ℤ◌, sym, refl, ap, ◌∙◌, arith, rules}
use lib.Signed.{le_z}
use Rattle.std.proofs.lemmas.Bool.{and_parts, and_from}
use Rattle.std.proofs.lemmas.Int.{ints}
use Rattle.rules.specs.declared.window.Window.{Window}
use Rattle.std.specs.List.{range_with_len}
use Rattle.std.proofs.lemmas.List.{ext_get_or}
use Rattle.std.proofs.lemmas.List.FromFn.{length-map-range_with_len, get_or-map-range_with_len}
use Rattle.rules.specs.Plans.{lawful, all_lawful, window_at, value_at, lies, inside, Single, firsts}

pub lawful_at : (ws : List Window) (i : ℕ) → all_lawful ws ≡ true → i < length ws → lawful (window_at ws i) ≡ true
lawful_at [] i h l = absurd (omega arith)
lawful_at (w ∷ ws) zero h l = (and_parts _ _ h).0
lawful_at (w ∷ ws) (suc i) h l = lawful_at ws i (and_parts _ _ h).1 (omega arith)

pub record Ends (w : Window) : Type 0 where
  pub low : negsuc 29999999 ≤ℤ w.first
  pub high : w.last ≤ℤ pos 30000000
  pub order : w.first ≤ℤ w.last

pub lawful_ends : (w : Window) → lawful w ≡ true → Ends w
lawful_ends w h = record { low = grind (arith, ints); high = grind (arith, ints); order = grind (arith, ints) }

pub lies-length : (x : List ℤ) (ws : List Window) → lies x ws ≡ true → length x ≡ length ws
lies-length [] [] h = refl
lies-length [] (w ∷ ws) h = search rules
lies-length (v ∷ x) [] h = search rules
lies-length (v ∷ x) (w ∷ ws) h = ap suc (lies-length x ws (and_parts _ _ h).1)

pub record Holds (w : Window) (v : ℤ) : Type 0 where
  pub low : w.first ≤ℤ v
  pub high : v ≤ℤ w.last

pub lies_at : (x : List ℤ) (ws : List Window) (i : ℕ) → lies x ws ≡ true → i < length ws → Holds (window_at ws i) (value_at x i)
lies_at [] [] i h l = absurd (omega arith)
lies_at [] (w ∷ ws) i h l = search rules
lies_at (v ∷ x) [] i h l = absurd (omega arith)
lies_at (v ∷ x) (w ∷ ws) zero h l = record { low = grind (arith, ints); high = grind (arith, ints) }
lies_at (v ∷ x) (w ∷ ws) (suc i) h l = lies_at x ws i (and_parts _ _ h).1 (omega arith)

pub inside-length : (ws vs : List Window) → inside ws vs ≡ true → length ws ≡ length vs
inside-length [] [] h = refl
inside-length [] (v ∷ vs) h = search rules
inside-length (w ∷ ws) [] h = search rules
inside-length (w ∷ ws) (v ∷ vs) h = ap suc (inside-length ws vs (and_parts _ _ h).1)

pub record Within (w v : Window) : Type 0 where
  pub low : v.first ≤ℤ w.first
  pub high : w.last ≤ℤ v.last

pub within : (w v : Window) → (le_z v.first w.first && le_z w.last v.last) ≡ true → Within w v
within w v h = record { low = grind (arith, ints); high = grind (arith, ints) }

pub within_test : (w v : Window) → Within w v → (le_z v.first w.first && le_z w.last v.last) ≡ true
within_test w v h = grind (arith, ints)

pub test_holds : (w : Window) (v : ℤ) → (le_z w.first v && le_z v w.last) ≡ true → Holds w v
test_holds w v h = record { low = grind (arith, ints); high = grind (arith, ints) }

pub holds_test : (w : Window) (v : ℤ) → Holds w v → (le_z w.first v && le_z v w.last) ≡ true
holds_test w v h = grind (arith, ints)

pub ends_lawful : (w : Window) → Ends w → lawful w ≡ true
ends_lawful w h = grind (arith, ints)

pub inside_at : (ws vs : List Window) (i : ℕ) → inside ws vs ≡ true → i < length ws → Within (window_at ws i) (window_at vs i)
inside_at [] vs i h l = absurd (omega arith)
inside_at (w ∷ ws) [] i h l = search rules
inside_at (w ∷ ws) (v ∷ vs) zero h l = within w v (and_parts _ _ h).0
inside_at (w ∷ ws) (v ∷ vs) (suc i) h l = inside_at ws vs i (and_parts _ _ h).1 (omega arith)

pub inside_same : (ws : List Window) → inside ws ws ≡ true
inside_same [] = refl
inside_same (w ∷ ws) = and_from _ _ (within_test w w (record { low = omega (arith, ints); high = omega (arith, ints) })) (inside_same ws)

pub within_trans : (u v w : Window) → Within u v → Within v w → Within u w
within_trans u v w a b = record { low = omega (arith, ints); high = omega (arith, ints) }

pub inside_trans : (us vs ws : List Window) → inside us vs ≡ true → inside vs ws ≡ true → inside us ws ≡ true
inside_trans [] [] ws h l = l
inside_trans [] (v ∷ vs) ws h l = search rules
inside_trans (u ∷ us) [] ws h l = search rules
inside_trans (u ∷ us) (v ∷ vs) [] h l = search rules
inside_trans (u ∷ us) (v ∷ vs) (w ∷ ws) h l =
    and_from _ _ (within_test u w (within_trans u v w (within u v (and_parts _ _ h).0) (within v w (and_parts _ _ l).0))) (inside_trans us vs ws (and_parts _ _ h).1 (and_parts _ _ l).1)

pub within_holds : (w v : Window) (x : ℤ) → Within w v → Holds w x → Holds v x
within_holds w v x a b = record { low = omega (arith, ints); high = omega (arith, ints) }

pub lies-inside : (x : List ℤ) (ws vs : List Window) → lies x ws ≡ true → inside ws vs ≡ true → lies x vs ≡ true
lies-inside [] [] [] h l = refl
lies-inside [] [] (v ∷ vs) h l = search rules
lies-inside [] (w ∷ ws) vs h l = search rules
lies-inside (y ∷ x) [] vs h l = search rules
lies-inside (y ∷ x) (w ∷ ws) [] h l = search rules
lies-inside (y ∷ x) (w ∷ ws) (v ∷ vs) h l =
    and_from _ _ (holds_test v y (within_holds w v y (within w v (and_parts _ _ l).0) (test_holds w y (and_parts _ _ h).0))) (lies-inside x ws vs (and_parts _ _ h).1 (and_parts _ _ l).1)

pub lawful-set : (ws : List Window) (i : ℕ) (w : Window) → all_lawful ws ≡ true → lawful w ≡ true → all_lawful (set ws i w) ≡ true
lawful-set [] i w h l = refl
lawful-set (v ∷ ws) zero w h l = and_from _ _ l (and_parts _ _ h).1
lawful-set (v ∷ ws) (suc i) w h l = and_from _ _ (and_parts _ _ h).0 (lawful-set ws i w (and_parts _ _ h).1 l)

pub inside-set : (ws : List Window) (i : ℕ) (w : Window) → Within w (window_at ws i) → inside (set ws i w) ws ≡ true
inside-set [] i w h = refl
inside-set (v ∷ ws) zero w h = and_from _ _ (within_test w v h) (inside_same ws)
inside-set (v ∷ ws) (suc i) w h = and_from _ _ (within_test v v (record { low = omega (arith, ints); high = omega (arith, ints) })) (inside-set ws i w h)

pub lies-set : (x : List ℤ) (ws : List Window) (i : ℕ) (w : Window) → lies x ws ≡ true → Holds w (value_at x i) → lies x (set ws i w) ≡ true
lies-set [] [] i w h b = refl
lies-set [] (v ∷ ws) i w h b = search rules
lies-set (y ∷ x) [] i w h b = search rules
lies-set (y ∷ x) (v ∷ ws) zero w h b = and_from _ _ (holds_test w y b) (and_parts _ _ h).1
lies-set (y ∷ x) (v ∷ ws) (suc i) w h b = and_from _ _ (and_parts _ _ h).0 (lies-set x ws i w (and_parts _ _ h).1 b)

-- from each column to the whole list
pub lawful_from : (ws : List Window) → ((i : ℕ) → i < length ws → Ends (window_at ws i)) → all_lawful ws ≡ true
lawful_from [] f = refl
lawful_from (w ∷ ws) f = and_from _ _ (ends_lawful w (f 0 (omega arith))) (lawful_from ws (λ i l. f (suc i) (omega arith)))

pub inside_from : (ws vs : List Window) → length ws ≡ length vs → ((i : ℕ) → i < length ws → Within (window_at ws i) (window_at vs i)) → inside ws vs ≡ true
inside_from [] [] e f = refl
inside_from [] (v ∷ vs) e f = absurd (omega arith)
inside_from (w ∷ ws) [] e f = absurd (omega arith)
inside_from (w ∷ ws) (v ∷ vs) e f = and_from _ _ (within_test w v (f 0 (omega arith))) (inside_from ws vs (omega arith) (λ i l. f (suc i) (omega arith)))

pub lies_from : (x : List ℤ) (ws : List Window) → length x ≡ length ws → ((i : ℕ) → i < length ws → Holds (window_at ws i) (value_at x i)) → lies x ws ≡ true
lies_from [] [] e f = refl
lies_from [] (w ∷ ws) e f = absurd (omega arith)
lies_from (v ∷ x) [] e f = absurd (omega arith)
lies_from (v ∷ x) (w ∷ ws) e f = and_from _ _ (holds_test w v (f 0 (omega arith))) (lies_from x ws (omega arith) (λ i l. f (suc i) (omega arith)))

-- the plan of k columns that has f i in column i
abbrev pub plan_of : ℕ → (ℕ → ℤ) → List ℤ
plan_of k f = map f (range_with_len 0 k)

pub plan_at : (k : ℕ) (f : ℕ → ℤ) (i : ℕ) → i < k → value_at (plan_of k f) i ≡ f i
plan_at k f i l = get_or-map-range_with_len f 0 k i i (pos 0) l (omega arith)

pub plan_lies : (k : ℕ) (f : ℕ → ℤ) (ws : List Window) → length ws ≡ k → ((i : ℕ) → i < k → Holds (window_at ws i) (f i)) → lies (plan_of k f) ws ≡ true
plan_lies k f ws e h =
    lies_from (plan_of k f) ws (length-map-range_with_len f 0 k ∙ sym e) λ i l.
    let at = plan_at k f i (omega arith) in
    let here = h i (omega arith) in
    record { low = omega (arith, ints); high = omega (arith, ints) }

-- the plan of first values lies in the windows
pub firsts_at : (ws : List Window) (i : ℕ) → value_at (firsts ws) i ≡ (window_at ws i).first
firsts_at [] i = refl
firsts_at (w ∷ ws) zero = refl
firsts_at (w ∷ ws) (suc i) = firsts_at ws i

pub length-firsts : (ws : List Window) → length (firsts ws) ≡ length ws
length-firsts [] = refl
length-firsts (w ∷ ws) = ap suc (length-firsts ws)

pub firsts_lie : (ws : List Window) → all_lawful ws ≡ true → lies (firsts ws) ws ≡ true
firsts_lie ws h =
    lies_from (firsts ws) ws (length-firsts ws) λ i l.
    let at = firsts_at ws i in
    let ends = lawful_ends (window_at ws i) (lawful_at ws i h l) in
    record { low = omega (arith, ints); high = omega (arith, ints, ends.order) }

-- a plan that lies in single windows is the plan of their first values
pub single_plan : (x : List ℤ) (ws : List Window) → Single ws → lies x ws ≡ true → x ≡ firsts ws
single_plan x ws s h =
    ext_get_or (pos 0) x (firsts ws) (lies-length x ws h ∙ sym (length-firsts ws)) λ i l.
    let here : i < length ws = omega (arith, lies-length x ws h) in
    let at = firsts_at ws i in
    let one = s i here in
    let held = lies_at x ws i h here in
    omega (arith, ints)

-- a plan with another value in one column
pub lies_put : (x : List ℤ) (ws : List Window) (i : ℕ) (v : ℤ) → lies x ws ≡ true → Holds (window_at ws i) v → lies (set x i v) ws ≡ true
lies_put [] [] i v h b = refl
lies_put [] (w ∷ ws) i v h b = search rules
lies_put (y ∷ x) [] i v h b = search rules
lies_put (y ∷ x) (w ∷ ws) zero v h b = and_from _ _ (holds_test w v b) (and_parts _ _ h).1
lies_put (y ∷ x) (w ∷ ws) (suc i) v h b = and_from _ _ (and_parts _ _ h).0 (lies_put x ws i v (and_parts _ _ h).1 b)

-- both ends of a lawful window are in it
pub holds_first : (w : Window) → lawful w ≡ true → Holds w w.first
holds_first w h = let e = lawful_ends w h in record { low = omega (arith, ints); high = e.order }

pub holds_last : (w : Window) → lawful w ≡ true → Holds w w.last
holds_last w h = let e = lawful_ends w h in record { low = e.order; high = omega (arith, ints) }
