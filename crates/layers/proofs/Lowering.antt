-- What a rule says of windows that were shifted and cut.
use Rattle.std.proofs.Common.{◌≡◌, ℕ, ◌<◌, Bool, true, false, ◌&&◌, List, [], ◌∷◌, map, length, ℤ, ◌+ℤ◌, neg_ℤ, None, sym, refl, ap, ◌∙◌, subst, arith}
use Rattle.std.specs.List.{list_all}
use Rattle.std.proofs.lemmas.Int.{ints}
use Rattle.std.proofs.lemmas.Bool.{and_parts, and_from, both_ways}
use Rattle.std.proofs.lemmas.List.{length-map}
use Rattle.rules.specs.declared.window.Window.{Window}
use Rattle.rules.specs.Plans.{lawful, all_lawful, value_at, lies, inside, Single, firsts, Supported, Trimmed, Filled, NoPlan}
use Rattle.rules.specs.Refusals.{window_refusal}
use Rattle.rules.specs.Meaning.{Meaning, Opened, Voided}
use Rattle.rules.proofs.Windows.{inside-length, inside_trans, lies-inside, lies-length, firsts_lie, single_plan}
use Rattle.rules.proofs.Failing.{takes, taken}
use Rattle.layers.specs.Offset.{shifted, all_values, offset, offset_meaning, shift_windows, cut}
use Rattle.layers.proofs.Owning.{own_settles}
use Rattle.layers.proofs.Shifting.{back, length_windows, value_shifted, window_shifted, there_back, plan_back, windows_back, lies-shifted, inside-shifted, single_shifted, inside-cut, lies-cut, lawful-cut, all_values_in, lawful-inside, single_inside}

-- a value that a plan supports, shifted back
module _ (ss : List ℤ) (A : List ℤ → Bool) (ys : List Window) (ok : all_lawful ys ≡ true) where
  supported_back : (i : ℕ) (u v : ℤ) → i < length ys → v ≡ u +ℤ value_at (back ss) i → Supported A ys i u → Supported (offset ss A) (shift_windows (back ss) ys) i v
  supported_back i u v l e s =
      record {
        plan = shifted (back ss) s.plan;
        allowed = subst (λ (x : List ℤ). (all_values x && A x) ≡ true) (sym (plan_back ss s.plan)) (and_from _ _ (all_values_in s.plan ys ok s.there) s.allowed);
        there = lies-shifted (back ss) s.plan ys ∙ s.there;
        at = value_shifted (back ss) s.plan i (omega (arith, lies-length s.plan ys s.there)) ∙ ap (λ (w : ℤ). w +ℤ value_at (back ss) i) s.at ∙ sym e;
      }

  trimmed_back : Trimmed A ys → Trimmed (offset ss A) (shift_windows (back ss) ys)
  trimmed_back t =
      record {
        first_end = λ i l.
            let here : i < length ys = omega (arith, length_windows (back ss) ys) in
            supported_back i _ _ here (ap (λ (w : Window). w.first) (window_shifted (back ss) ys i here)) (t.first_end i here);
        last_end = λ i l.
            let here : i < length ys = omega (arith, length_windows (back ss) ys) in
            supported_back i _ _ here (ap (λ (w : Window). w.last) (window_shifted (back ss) ys i here)) (t.last_end i here);
      }

  filled_back : Filled A ys → Filled (offset ss A) (shift_windows (back ss) ys)
  filled_back f =
      record {
        each = λ i v l low high.
            let here : i < length ys = omega (arith, length_windows (back ss) ys) in
            let at = window_shifted (back ss) ys i here in
            let first = ap (λ (w : Window). w.first) at in
            let last = ap (λ (w : Window). w.last) at in
            let u = v +ℤ neg_ℤ (value_at (back ss) i) in
            supported_back i u v here (sym (there_back v (value_at (back ss) i))) (f.each i u here (omega (arith, ints)) (omega (arith, ints)));
      }

-- the rule m was asked on the shifted windows of vs, cut to the values
module _ (ss : List ℤ) (m : Meaning) (vs : List Window) (ok : window_refusal m.scope.width vs ≡ None) where
  abbrev below : List Window
  below = map cut (shift_windows ss vs)

  abbrev A : List ℤ → Bool
  A = m.scope.allows

  abbrev all : all_lawful vs ≡ true
  all = (taken m.scope.width vs ok).0

  lies_below : (x : List ℤ) → offset ss A x ≡ true → lies x vs ≡ true → lies (shifted ss x) below ≡ true
  lies_below x a h = lies-cut (shifted ss x) (shift_windows ss vs) (and_parts _ _ a).0 (lies-shifted ss x vs ∙ h)

  -- nothing is left of some window: no plan is allowed
  unlawful_below : (all_lawful below ≡ true → ⊥) → NoPlan (offset ss A) vs
  unlawful_below n x a h = n (lawful-cut (shifted ss x) (shift_windows ss vs) (lies_below x a h))

  none_below : NoPlan A below → NoPlan (offset ss A) vs
  none_below n x a h = n (shifted ss x) (and_parts _ _ a).1 (lies_below x a h)

  -- single windows stay single, and hold the shifted plan
  module _ (lawful_below : all_lawful below ≡ true) (one : Single vs) where
    single_below : Single below
    single_below = single_inside below (shift_windows ss vs) (inside-cut (shift_windows ss vs)) lawful_below (single_shifted ss vs one)

    firsts_below : firsts below ≡ shifted ss (firsts vs)
    firsts_below =
        single_plan (firsts below) (shift_windows ss vs) (single_shifted ss vs one) (lies-inside (firsts below) below (shift_windows ss vs) (firsts_lie below lawful_below) (inside-cut (shift_windows ss vs)))
        ∙ sym (single_plan (shifted ss (firsts vs)) (shift_windows ss vs) (single_shifted ss vs one) (lies-shifted ss (firsts vs) vs ∙ firsts_lie vs all))

    decided : A (firsts below) ≡ true → offset ss A (firsts vs) ≡ true
    decided a = subst (λ (x : List ℤ). (all_values x && A x) ≡ true) firsts_below (and_from _ _ (all_values_in (firsts below) below lawful_below (firsts_lie below lawful_below)) a)

  -- it left ys of them
  module _ (ys : List Window) where
    abbrev left : List Window
    left = shift_windows (back ss) ys

    lies_left : (x : List ℤ) → lies (shifted ss x) ys ≡ true → lies x left ≡ true
    lies_left x h = sym (lies-shifted ss x left) ∙ ap (lies (shifted ss x)) (windows_back ss ys) ∙ h

    inside_left : inside ys below ≡ true → inside left vs ≡ true
    inside_left h = sym (inside-shifted ss left vs) ∙ ap (λ (zs : List Window). inside zs (shift_windows ss vs)) (windows_back ss ys) ∙ inside_trans ys below (shift_windows ss vs) h (inside-cut (shift_windows ss vs))

    open_offset : Opened m below ys → Opened (offset_meaning m ss) vs left
    open_offset o =
        let ends : m.tight ≡ true → Trimmed (offset ss A) left = λ e. trimmed_back ss A ys o.lawful_after (o.ends e) in
        record {
          accepted = ok;
          lawful_after = lawful-inside (shifted (back ss) (firsts ys)) left vs (lies-shifted (back ss) (firsts ys) ys ∙ firsts_lie ys o.lawful_after) (inside_left o.shrinks) all;
          shrinks = inside_left o.shrinks;
          keeps = λ x a h. lies_left x (o.keeps (shifted ss x) (and_parts _ _ a).1 (lies_below x a h));
          decides = λ s. let lawful_below = (taken m.scope.width below o.accepted).0 in decided lawful_below s (o.decides (single_below lawful_below s));
          ends = ends;
          values = λ e. filled_back ss A ys o.lawful_after (o.values e);
          settles = own_settles _ m.tight m.full left (inside-length left vs (inside_left o.shrinks) ∙ (taken m.scope.width vs ok).1) ends;
        }

all_passed : (us : List Window) → list_all lawful us ≡ all_lawful us
all_passed [] = refl
all_passed (u ∷ us) = ap (λ b. lawful u && b) (all_passed us)

-- the same as the code has it: the windows us are those of vs, shifted and cut
module _ (ss : List ℤ) (m : Meaning) (vs us : List Window) (ok : window_refusal m.scope.width vs ≡ None) (down : us ≡ map cut (shift_windows ss vs)) where
  long : length us ≡ m.scope.width
  long = ap length down ∙ length-map (shift_windows ss vs) cut ∙ length_windows ss vs ∙ (taken m.scope.width vs ok).1

  -- nothing is left of some window
  pub nothing_left : false ≡ list_all lawful us → Voided (offset_meaning m ss) vs vs
  nothing_left e =
      record {
        accepted = ok;
        stays = refl;
        none = unlawful_below ss m vs ok (λ l. both_ways _ (sym (all_passed us) ∙ sym e) (ap all_lawful down ∙ l));
      }

  -- else the rule does not refuse them
  pub something_left : true ≡ list_all lawful us → window_refusal m.scope.width us ≡ None
  something_left e = takes m.scope.width us (sym (all_passed us) ∙ sym e) long

  pub raised_back : (ys ws : List Window) → Opened m us ys → ws ≡ shift_windows (back ss) ys → Opened (offset_meaning m ss) vs ws
  raised_back ys ws o up = subst (Opened (offset_meaning m ss) vs) (sym up) (open_offset ss m vs ok ys (subst (λ (zs : List Window). Opened m zs ys) down o))

  pub void_back : (ys : List Window) → Voided m us ys → Voided (offset_meaning m ss) vs vs
  void_back ys o = record { accepted = ok; stays = refl; none = none_below ss m vs ok (subst (NoPlan m.scope.allows) down o.none) }
