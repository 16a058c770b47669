-- The hull of a set of plans is what the set leaves of the windows, and the only such windows.
use Rattle.std.proofs.Common.{◌≡◌, ℕ, zero, suc, ◌<◌, Bool, true, ◌⊎◌, List, [], ◌∷◌, map, length, ℤ, ◌≤ℤ◌, Some, None, Option, sym, refl, ap, ◌∙◌, inl, inr, ⊎_elim, arith}
use Rattle.std.specs.Int.{int_max, int_min}
use Rattle.std.proofs.lemmas.Int.{ints, clamps, by_lt_z}
use Rattle.std.proofs.lemmas.List.{ext_get_or, length-map}
use Rattle.rules.specs.declared.window.Window.{Window}
use Rattle.rules.specs.Plans.{lies, inside, value_at, window_at, Keeps, NoPlan, Trimmed}
use Rattle.rules.specs.Enumeration.{Among, point, widened, cover, hull_of, hull, allowed, Left, Leaves}
use Rattle.rules.proofs.Windows.{lies-length, lies_at, inside-length, inside_at, lies-inside}
use Rattle.rules.proofs.Plans.{allowed_in, in_allowed}

wide_long : (x : List ℤ) (ws : List Window) → length x ≡ length ws → length (widened x ws) ≡ length ws
wide_long [] [] e = refl
wide_long [] (w ∷ ws) e = e
wide_long (v ∷ x) [] e = refl
wide_long (v ∷ x) (w ∷ ws) e = ap suc (wide_long x ws (omega arith))

wide_self : (x : List ℤ) (ws : List Window) → length x ≡ length ws → lies x (widened x ws) ≡ true
wide_self [] ws e = refl
wide_self (v ∷ x) [] e = absurd (omega arith)
wide_self (v ∷ x) (w ∷ ws) e = let r = wide_self x ws (omega arith) in grind (arith, ints, clamps)

wide_more : (x y : List ℤ) (ws : List Window) → length x ≡ length ws → lies y ws ≡ true → lies y (widened x ws) ≡ true
wide_more [] [] ws e h = refl
wide_more [] (u ∷ y) [] e h = h
wide_more [] (u ∷ y) (w ∷ ws) e h = absurd (omega arith)
wide_more (v ∷ x) y [] e h = absurd (omega arith)
wide_more (v ∷ x) [] (w ∷ ws) e h = h
wide_more (v ∷ x) (u ∷ y) (w ∷ ws) e h = let r = wide_more x y ws (omega arith) in grind (arith, ints, clamps)

wide_within : (x : List ℤ) (ws us : List Window) → lies x us ≡ true → inside ws us ≡ true → inside (widened x ws) us ≡ true
wide_within [] ws [] h k = refl
wide_within [] ws (u ∷ us) h k = h
wide_within (v ∷ x) [] us h k = k
wide_within (v ∷ x) (w ∷ ws) [] h k = h
wide_within (v ∷ x) (w ∷ ws) (u ∷ us) h k = let r = wide_within x ws us in grind (arith, ints, clamps)

min_either : (a b : ℤ) → (int_min a b ≡ a) ⊎ (int_min a b ≡ b)
min_either a b = by_lt_z b a (λ l. inr (grind (arith, ints, clamps))) (λ l. inl (grind (arith, ints, clamps)))

max_either : (a b : ℤ) → (int_max a b ≡ a) ⊎ (int_max a b ≡ b)
max_either a b = by_lt_z b a (λ l. inl (grind (arith, ints, clamps))) (λ l. inr (grind (arith, ints, clamps)))

wide_first : (x : List ℤ) (ws : List Window) (i : ℕ) → length x ≡ length ws → ((window_at (widened x ws) i).first ≡ value_at x i) ⊎ ((window_at (widened x ws) i).first ≡ (window_at ws i).first)
wide_first [] ws i e = inl refl
wide_first (v ∷ x) [] i e = inr refl
wide_first (v ∷ x) (w ∷ ws) zero e = min_either v w.first
wide_first (v ∷ x) (w ∷ ws) (suc i) e = wide_first x ws i (omega arith)

wide_last : (x : List ℤ) (ws : List Window) (i : ℕ) → length x ≡ length ws → ((window_at (widened x ws) i).last ≡ value_at x i) ⊎ ((window_at (widened x ws) i).last ≡ (window_at ws i).last)
wide_last [] ws i e = inl refl
wide_last (v ∷ x) [] i e = inr refl
wide_last (v ∷ x) (w ∷ ws) zero e = max_either v w.last
wide_last (v ∷ x) (w ∷ ws) (suc i) e = wide_last x ws i (omega arith)

points_within : (x : List ℤ) (us : List Window) → lies x us ≡ true → inside (map point x) us ≡ true
points_within [] [] h = refl
points_within [] (u ∷ us) h = h
points_within (v ∷ x) [] h = h
points_within (v ∷ x) (u ∷ us) h = let r = points_within x us in grind (arith, ints)

pub lies_points : (x : List ℤ) → lies x (map point x) ≡ true
lies_points [] = refl
lies_points (v ∷ x) = let r = lies_points x in grind (arith, ints)

point_at : (x : List ℤ) (i : ℕ) → window_at (map point x) i ≡ point (value_at x i)
point_at [] i = refl
point_at (v ∷ x) zero = refl
point_at (v ∷ x) (suc i) = point_at x i

-- ws are the least windows that hold each of the plans xs, n values a plan
record Span (n : ℕ) (xs : List (List ℤ)) (ws : List Window) : Type 0 where
  long : length ws ≡ n
  all : (x : List ℤ) → Among x xs → lies x ws ≡ true
  least : (us : List Window) → ((x : List ℤ) → Among x xs → lies x us ≡ true) → inside ws us ≡ true
  first_by : (i : ℕ) → (x : List ℤ) × Among x xs × (value_at x i ≡ (window_at ws i).first)
  last_by : (i : ℕ) → (x : List ℤ) × Among x xs × (value_at x i ≡ (window_at ws i).last)

abbrev Spans : ℕ → List (List ℤ) → Option (List Window) → Type 0
Spans n xs None = (x : List ℤ) → Among x xs → ⊥
Spans n xs (Some ws) = Span n xs ws

cover_spans : (n : ℕ) (x : List ℤ) (xs : List (List ℤ)) (o : Option (List Window)) → length x ≡ n → Spans n xs o → Spans n (x ∷ xs) (cover x o)
cover_spans n x xs None e s =
    record {
      long = length-map x point ∙ e;
      all = λ y m. ⊎_elim (λ h. rw h (lies_points x)) (λ h. absurd (s y h)) m;
      least = λ us h. points_within x us (h x (inl refl));
      first_by = λ i. (x, inl refl, ap (λ (w : Window). w.first) (sym (point_at x i)));
      last_by = λ i. (x, inl refl, ap (λ (w : Window). w.last) (sym (point_at x i)));
    }
cover_spans n x xs (Some ws) e s =
    let even : length x ≡ length ws = e ∙ sym s.long in
    record {
      long = wide_long x ws even ∙ s.long;
      all = λ y m. ⊎_elim (λ h. rw h (wide_self x ws even)) (λ h. wide_more x y ws even (s.all y h)) m;
      least = λ us h. wide_within x ws us (h x (inl refl)) (s.least us (λ y m. h y (inr m)));
      first_by = λ i. ⊎_elim (λ h. (x, inl refl, sym h)) (λ h. let r = s.first_by i in (r.0, inr r.1, r.2 ∙ sym h)) (wide_first x ws i even);
      last_by = λ i. ⊎_elim (λ h. (x, inl refl, sym h)) (λ h. let r = s.last_by i in (r.0, inr r.1, r.2 ∙ sym h)) (wide_last x ws i even);
    }

hull_spans : (n : ℕ) (xs : List (List ℤ)) → ((x : List ℤ) → Among x xs → length x ≡ n) → Spans n xs (hull_of xs)
hull_spans n [] h = λ x m. m
hull_spans n (x ∷ xs) h = cover_spans n x xs (hull_of xs) (h x (inl refl)) (hull_spans n xs (λ y m. h y (inr m)))

spans_leave : (A : List ℤ → Bool) (ws : List Window) (o : Option (List Window)) → Spans (length ws) (allowed A ws) o → Leaves A ws o
spans_leave A ws None s = λ x a h. s x (in_allowed A ws x a h)
spans_leave A ws (Some vs) s =
    record {
      within = s.least ws (λ x m. (allowed_in A ws x m).1);
      keeps = λ x a h. s.all x (in_allowed A ws x a h);
      ends = record {
        first_end = λ i l. let r = s.first_by i in record { plan = r.0; allowed = (allowed_in A ws r.0 r.1).0; there = s.all r.0 r.1; at = r.2 };
        last_end = λ i l. let r = s.last_by i in record { plan = r.0; allowed = (allowed_in A ws r.0 r.1).0; there = s.all r.0 r.1; at = r.2 };
      };
    }

pub hull_leaves : (A : List ℤ → Bool) (ws : List Window) → Leaves A ws (hull A ws)
unfolding hull
hull_leaves A ws = spans_leave A ws (hull A ws) (hull_spans (length ws) (allowed A ws) (λ x m. lies-length x ws (allowed_in A ws x m).1))

-- two lists of windows that A leaves of ws
module _ (A : List ℤ → Bool) (ws : List Window) where
  reach : (us vs : List Window) → Left A ws us → Left A ws vs → (i : ℕ) → i < length us → ((window_at vs i).first ≤ℤ (window_at us i).first) × ((window_at us i).last ≤ℤ (window_at vs i).last)
  reach us vs p q i l =
      let low = p.ends.first_end i l in
      let high = p.ends.last_end i l in
      let here : (s : List ℤ) → A s ≡ true → lies s us ≡ true → lies s vs ≡ true = λ s a h. q.keeps s a (lies-inside s us ws h p.within) in
      let m : i < length vs = omega (arith, inside-length us ws p.within, inside-length vs ws q.within) in
      let low-at = lies_at low.plan vs i (here low.plan low.allowed low.there) m in
      let high-at = lies_at high.plan vs i (here high.plan high.allowed high.there) m in
      let low-is = low.at in
      let high_is = high.at in
      (omega (arith, ints), omega (arith, ints))

  pub left_once : (us vs : List Window) → Left A ws us → Left A ws vs → us ≡ vs
  left_once us vs p q =
      let long : length us ≡ length vs = inside-length us ws p.within ∙ sym (inside-length vs ws q.within) in
      ext_get_or _ us vs long λ i l.
      let a = reach us vs p q i l in
      let b = reach vs us q p i (omega arith) in
      let f : (window_at us i).first ≡ (window_at vs i).first = omega (arith, ints) in
      let g : (window_at us i).last ≡ (window_at vs i).last = omega (arith, ints) in
      λ j. record { first = f j; last = g j }

  some_plan : (vs : List Window) → 0 < length ws → Left A ws vs → NoPlan A ws → ⊥
  some_plan vs l p n =
      let s = p.ends.first_end 0 (omega (arith, inside-length vs ws p.within)) in
      n s.plan s.allowed (lies-inside s.plan vs ws s.there p.within)

  pub leaves_once : 0 < length ws → (o r : Option (List Window)) → Leaves A ws o → Leaves A ws r → o ≡ r
  leaves_once l None None p q = refl
  leaves_once l None (Some vs) p q = absurd (some_plan vs l q p)
  leaves_once l (Some us) None p q = absurd (some_plan us l p q)
  leaves_once l (Some us) (Some vs) p q = ap Some (left_once us vs p q)

-- windows trimmed already lose no end to what keeps their plans
pub trimmed_stays : (A : List ℤ → Bool) (vs ws : List Window) → Trimmed A vs → inside ws vs ≡ true → Keeps A vs ws → ws ≡ vs
trimmed_stays A vs ws t h k =
    let long = inside-length ws vs h in
    ext_get_or _ ws vs long λ i l.
    let m : i < length vs = omega arith in
    let low = t.first_end i m in
    let high = t.last_end i m in
    let low-at = lies_at low.plan ws i (k low.plan low.allowed low.there) l in
    let high-at = lies_at high.plan ws i (k high.plan high.allowed high.there) l in
    let edge = inside_at ws vs i h l in
    let low-is = low.at in
    let high_is = high.at in
    let f : (window_at ws i).first ≡ (window_at vs i).first = omega (arith, ints) in
    let g : (window_at ws i).last ≡ (window_at vs i).last = omega (arith, ints) in
    λ j. record { first = f j; last = g j }
