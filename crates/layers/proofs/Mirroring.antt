-- Signs turned, of values, plans and windows; and what a rule says of turned windows.
use Rattle.std.proofs.Common.{◌≡◌, ℕ, zero, suc, ◌<◌, Bool, true, List, [], ◌∷◌, ◌++◌, map, length, take, drop, ℤ, neg_ℤ, None, Ok, sym, refl, ap, ◌∙◌, subst, arith}
use Rattle.std.proofs.lemmas.Int.{ints}
use Rattle.std.proofs.lemmas.List.{length-map}
use Rattle.rules.specs.declared.window.Window.{Window}
use Rattle.rules.specs.declared.verdict.Verdict.{Verdict}
use Rattle.rules.specs.declared.verdict.Verdict.TheVariants.{Open, Void}
use Rattle.rules.specs.Plans.{all_lawful, window_at, value_at, lies, inside, Single, firsts, Supported, Trimmed, Filled}
use Rattle.rules.specs.Refusals.{window_refusal}
use Rattle.rules.specs.Meaning.{Meaning, Opened, Voided, Narrowed}
use Rattle.rules.proofs.Windows.{inside-length, firsts_lie, single_plan}
use Rattle.rules.proofs.Failing.{takes, taken}
use Rattle.rules.proofs.Trimming.{narrowed_at}
use Rattle.layers.specs.Mirror.{mirror, mirrored, mirror_meaning}
use Rattle.layers.proofs.Owning.{own_settles, taken_below}

twice : (v : ℤ) → neg_ℤ (neg_ℤ v) ≡ v
twice v = omega (arith, ints)

plan_twice : (x : List ℤ) → map neg_ℤ (map neg_ℤ x) ≡ x
plan_twice [] = refl
plan_twice (v ∷ x) = λ i. twice v i ∷ plan_twice x i

windows_twice : (ws : List Window) → map mirrored (map mirrored ws) ≡ ws
windows_twice [] = refl
windows_twice (w ∷ ws) = λ i. record { first = twice w.first i; last = twice w.last i } ∷ windows_twice ws i

pub value_turned : (x : List ℤ) (i : ℕ) → value_at (map neg_ℤ x) i ≡ neg_ℤ (value_at x i)
value_turned [] i = refl
value_turned (v ∷ x) zero = refl
value_turned (v ∷ x) (suc i) = value_turned x i

window_turned : (ws : List Window) (i : ℕ) → window_at (map mirrored ws) i ≡ mirrored (window_at ws i)
window_turned [] i = refl
window_turned (w ∷ ws) zero = refl
window_turned (w ∷ ws) (suc i) = window_turned ws i

lies_turned : (x : List ℤ) (ws : List Window) → lies (map neg_ℤ x) (map mirrored ws) ≡ lies x ws
lies_turned [] [] = refl
lies_turned [] (w ∷ ws) = refl
lies_turned (v ∷ x) [] = refl
lies_turned (v ∷ x) (w ∷ ws) = let r = lies_turned x ws in grind (arith, ints)

inside_turned : (us ws : List Window) → inside (map mirrored us) (map mirrored ws) ≡ inside us ws
inside_turned [] [] = refl
inside_turned [] (w ∷ ws) = refl
inside_turned (u ∷ us) [] = refl
inside_turned (u ∷ us) (w ∷ ws) = let r = inside_turned us ws in grind (arith, ints)

lawful_turned : (ws : List Window) → all_lawful (map mirrored ws) ≡ all_lawful ws
lawful_turned [] = refl
lawful_turned (w ∷ ws) = let r = lawful_turned ws in grind (arith, ints)

single_turned : (ws : List Window) → Single ws → Single (map mirrored ws)
single_turned ws s i l = rw (window_turned ws i) (ap neg_ℤ (sym (s i (omega (arith, length-map ws mirrored)))))

-- a plan in windows that were turned back
lies_back : (x : List ℤ) (ys : List Window) → lies x (map mirrored ys) ≡ lies (map neg_ℤ x) ys
lies_back x ys = sym (lies_turned x (map mirrored ys)) ∙ ap (lies (map neg_ℤ x)) (windows_twice ys)

inside_back : (ys vs : List Window) → inside (map mirrored ys) vs ≡ inside ys (map mirrored vs)
inside_back ys vs = ap (inside (map mirrored ys)) (sym (windows_twice vs)) ∙ inside_turned ys (map mirrored vs)

-- turned windows are taken as they were
turned_taken : (k : ℕ) (vs : List Window) → window_refusal k vs ≡ None → window_refusal k (map mirrored vs) ≡ None
turned_taken k vs ok = takes k (map mirrored vs) (lawful_turned vs ∙ (taken k vs ok).0) (length-map vs mirrored ∙ (taken k vs ok).1)

-- a value that a plan supports, with its sign turned
supported_back : (A : List ℤ → Bool) (ys : List Window) (i : ℕ) (u v : ℤ) → v ≡ neg_ℤ u → Supported A ys i u → Supported (mirror A) (map mirrored ys) i v
supported_back A ys i u v e s =
    record {
      plan = map neg_ℤ s.plan;
      allowed = ap A (plan_twice s.plan) ∙ s.allowed;
      there = lies_turned s.plan ys ∙ s.there;
      at = value_turned s.plan i ∙ ap neg_ℤ s.at ∙ sym e;
    }

module _ (A : List ℤ → Bool) (ys : List Window) where
  trimmed_back : Trimmed A ys → Trimmed (mirror A) (map mirrored ys)
  trimmed_back t =
      record {
        first_end = λ i l. supported_back A ys i _ _ (ap (λ (w : Window). w.first) (window_turned ys i)) (t.last_end i (omega (arith, length-map ys mirrored)));
        last_end = λ i l. supported_back A ys i _ _ (ap (λ (w : Window). w.last) (window_turned ys i)) (t.first_end i (omega (arith, length-map ys mirrored)));
      }

  filled_back : Filled A ys → Filled (mirror A) (map mirrored ys)
  filled_back f =
      record {
        each = λ i v l low high.
            let at = window_turned ys i in
            let first = ap (λ (w : Window). w.first) at in
            let last = ap (λ (w : Window). w.last) at in
            supported_back A ys i (neg_ℤ v) v (sym (twice v)) (f.each i (neg_ℤ v) (omega (arith, length-map ys mirrored)) (omega (arith, ints)) (omega (arith, ints)));
      }

-- the rule m was asked on the turned windows of vs, and left ys of them
module _ (m : Meaning) (vs ys : List Window) (ok : window_refusal m.scope.width vs ≡ None) where
  open_mirror : Opened m (map mirrored vs) ys → Opened (mirror_meaning m) vs (map mirrored ys)
  open_mirror o =
      let ends : m.tight ≡ true → Trimmed (mirror m.scope.allows) (map mirrored ys) = λ e. trimmed_back m.scope.allows ys (o.ends e) in
      let turned = single_plan (map neg_ℤ (firsts vs)) (map mirrored vs) in
      record {
        accepted = ok;
        lawful_after = lawful_turned ys ∙ o.lawful_after;
        shrinks = inside_back ys vs ∙ o.shrinks;
        keeps = λ x a h. lies_back x ys ∙ o.keeps (map neg_ℤ x) a (lies_turned x vs ∙ h);
        decides = λ s.
            let one = single_turned vs s in
            ap m.scope.allows (turned one (lies_turned (firsts vs) vs ∙ firsts_lie vs (taken m.scope.width vs ok).0)) ∙ o.decides one;
        ends = ends;
        values = λ e. filled_back m.scope.allows ys (o.values e);
        settles = own_settles _ m.tight m.full (map mirrored ys) (length-map ys mirrored ∙ inside-length ys (map mirrored vs) o.shrinks ∙ length-map vs mirrored ∙ (taken m.scope.width vs ok).1) ends;
      }

  void_mirror : Voided m (map mirrored vs) ys → Voided (mirror_meaning m) vs (map mirrored ys)
  void_mirror o =
      record {
        accepted = ok;
        stays = ap (map mirrored) o.stays ∙ windows_twice vs;
        none = λ x a h. o.none (map neg_ℤ x) a (lies_turned x vs ∙ h);
      }

  mirror_narrowed : (v : Verdict) → Narrowed m (map mirrored vs) (Ok v) ys → Narrowed (mirror_meaning m) vs (Ok v) (map mirrored ys)
  mirror_narrowed Open o = open_mirror o
  mirror_narrowed Void o = void_mirror o

  left_lawful : (v : Verdict) → Narrowed m (map mirrored vs) (Ok v) ys → all_lawful ys ≡ true
  left_lawful Open o = o.lawful_after
  left_lawful Void o = ap all_lawful o.stays ∙ lawful_turned vs ∙ (taken m.scope.width vs ok).0

-- the same as the code has it: the columns were asked for first, and the windows us are those of vs, turned
module _ (m m' : Meaning) (n : ℕ) (vs us : List Window) (same : m' ≡ m) (wide : n ≡ m.scope.width) (ok : window_refusal n vs ≡ None) (down : us ≡ map mirrored vs) where
  given_taken : window_refusal m.scope.width vs ≡ None
  given_taken = subst (λ (k : ℕ). window_refusal k vs ≡ None) wide ok

  -- the rule below does not refuse them
  pub below_taken : window_refusal m'.scope.width us ≡ None
  below_taken = subst (λ (ws : List Window). window_refusal m'.scope.width ws ≡ None) (sym down) (turned_taken m'.scope.width vs (taken_below m m' n vs same wide ok))

  module _ (v : Verdict) (ys : List Window) (h : Narrowed m' us (Ok v) ys) where
    asked_below : Narrowed m (map mirrored vs) (Ok v) ys
    asked_below = subst (λ (zs : List Window). Narrowed m zs (Ok v) ys) down (narrowed_at m m' us ys (Ok v) same h)

    -- what it leaves can be turned back
    pub lawful_below : all_lawful ys ≡ true
    lawful_below = left_lawful m vs ys given_taken v asked_below

    -- and is what the mirror owes
    pub turned_back : (ws : List Window) → ws ≡ map mirrored ys → Narrowed (mirror_meaning m) vs (Ok v) ws
    turned_back ws up = subst (λ (zs : List Window). Narrowed (mirror_meaning m) vs (Ok v) zs) (sym up) (mirror_narrowed m vs ys given_taken v asked_below)

-- the next window of a list whose windows before it are changed
pub not_yet : (f : Window → Window) (ws : List Window) (i : ℕ) → i < length ws → window_at (map f (take i ws) ++ drop i ws) i ≡ window_at ws i
not_yet f [] i l = absurd (omega arith)
not_yet f (w ∷ ws) zero l = refl
not_yet f (w ∷ ws) (suc i) l = not_yet f ws i (omega arith)
