-- Windows inside others: where they differ, the total width is smaller.
use Rattle.std.proofs.Common.{◌≡◌, ◌*◌, ◌<◌, ◌≤◌, true, List, [], ◌∷◌, length, ℤ, pos, negsuc, ◌-ℤ◌, nat_abs, ◌≤ℤ◌, refl, subst, arith, rules}
use Rattle.std.proofs.lemmas.Bool.{and_parts}
use Rattle.std.proofs.lemmas.Int.{ints}
use Rattle.std.proofs.lemmas.List.{ext_get_or, get_or_default}
use Rattle.std.proofs.lemmas.List.Sums.{sum_by-cons, sum_by-le}
use Rattle.rules.specs.declared.window.Window.{Window}
use Rattle.rules.specs.Plans.{all_lawful, window_at, inside, Single}
use Rattle.rules.proofs.Windows.{Ends, lawful_ends, lawful_at, Within, within, inside_at, inside-length}
use Rattle.layers.specs.Joining.{window_width, total_width}

abs_is : (z : ℤ) → pos 0 ≤ℤ z → pos (nat_abs z) ≡ z
abs_is (pos n) h = refl
abs_is (negsuc n) h = absurd (omega (arith, ints))

width_is : (w : Window) → w.first ≤ℤ w.last → pos (window_width w) ≡ w.last -ℤ w.first
width_is w h = abs_is (w.last -ℤ w.first) (omega (arith, ints))

-- a window inside another is not wider, and the same if it is as wide
module _ (w v : Window) (i : Within w v) (e : Ends w) where
  inner : pos (window_width w) ≡ w.last -ℤ w.first
  inner = width_is w e.order

  outer : pos (window_width v) ≡ v.last -ℤ v.first
  outer = width_is v (omega (arith, ints))

  width_le : window_width w ≤ window_width v
  width_le = omega (arith, ints, inner, outer)

  same_window : window_width v ≤ window_width w → w ≡ v
  same_window h =
      let f : w.first ≡ v.first = omega (arith, ints, inner, outer) in
      let g : w.last ≡ v.last = omega (arith, ints, inner, outer) in
      λ j. record { first = f j; last = g j }

-- the first window and the rest
inside_parts : (w v : Window) (ws vs : List Window) → inside (w ∷ ws) (v ∷ vs) ≡ true → Within w v × (inside ws vs ≡ true)
inside_parts w v ws vs h = (within w v (and_parts _ _ h).0, (and_parts _ _ h).1)

lawful_parts : (w : Window) (ws : List Window) → all_lawful (w ∷ ws) ≡ true → Ends w × (all_lawful ws ≡ true)
lawful_parts w ws h = (lawful_ends w (and_parts _ _ h).0, (and_parts _ _ h).1)

-- windows inside others are not wider
pub total_le : (ws vs : List Window) → inside ws vs ≡ true → all_lawful ws ≡ true → total_width ws ≤ total_width vs
total_le [] [] h ok = omega arith
total_le [] (v ∷ vs) h ok = search rules
total_le (w ∷ ws) [] h ok = search rules
total_le (w ∷ ws) (v ∷ vs) h ok =
    let i = inside_parts w v ws vs h in
    let o = lawful_parts w ws ok in
    let a = width_le w v i.0 o.0 in
    let b = total_le ws vs i.1 o.1 in
    omega (arith, sum_by-cons window_width w ws, sum_by-cons window_width v vs)

-- and if they are as wide, they are the same
pub total_same : (ws vs : List Window) → inside ws vs ≡ true → all_lawful ws ≡ true → total_width vs ≤ total_width ws → ws ≡ vs
total_same [] [] h ok e = refl
total_same [] (v ∷ vs) h ok e = search rules
total_same (w ∷ ws) [] h ok e = search rules
total_same (w ∷ ws) (v ∷ vs) h ok e =
    let i = inside_parts w v ws vs h in
    let o = lawful_parts w ws ok in
    let a = width_le w v i.0 o.0 in
    let b = total_le ws vs i.1 o.1 in
    let one = sum_by-cons window_width w ws in
    let other = sum_by-cons window_width v vs in
    let here = same_window w v i.0 o.0 (omega arith) in
    let rest = total_same ws vs i.1 o.1 (omega arith) in
    λ j. here j ∷ rest j

-- nothing lawful is inside single windows but they themselves
pub single_same : (ws vs : List Window) → inside ws vs ≡ true → all_lawful ws ≡ true → Single vs → ws ≡ vs
single_same ws vs h ok one =
    ext_get_or _ ws vs (inside-length ws vs h) λ i l.
    let here : i < length vs = omega (arith, inside-length ws vs h) in
    let e = one i here in
    let ends = lawful_ends (window_at ws i) (lawful_at ws i ok l) in
    let inner = inside_at ws vs i h l in
    same_window (window_at ws i) (window_at vs i) inner ends (omega (arith, ints, width_is (window_at ws i) ends.order, width_is (window_at vs i) (omega (arith, ints))))

pub width_most : (w : Window) → Ends w → window_width w ≤ 60000000
width_most w e = omega (arith, ints, width_is w e.order)

-- at most 32 windows are not wider than a number of 64 bits
pub total_most : (ws : List Window) → all_lawful ws ≡ true → length ws ≤ 32 → total_width ws ≤ 32 * 60000000
total_most ws ok few =
    let most = sum_by-le window_width 60000000 ws (λ k d l.
    subst (λ (w : Window). window_width w ≤ 60000000) (get_or_default ws k _ d l) (width_most (window_at ws k) (lawful_ends _ (lawful_at ws k ok l)))) in
    omega arith
