-- Leading windows and values, and a rule that binds them.
use Rattle.std.proofs.Common.{◌≡◌, ℕ, zero, suc, ◌-◌, ◌<◌, ◌≤◌, min, Bool, true, List, [], ◌∷◌, ◌++◌, map, length, take, drop, set, ℤ, None, Ok, Err, IsOk, Result, sym, refl, ap, ◌∙◌, subst, inl, inr, arith, rules}
use native.Mathlib.Numerals.{unary_clauses}
use Rattle.std.proofs.lemmas.Bool.{and_parts, and_from, cases_lt}
use Rattle.std.proofs.lemmas.List.{length-take, length-take-le, take-append-drop, take_at, get_or-take, get_or_append_left, get_or-append_right, get_or-set_same, length-append}
use Rattle.rules.specs.declared.window.Window.{Window}
use Rattle.rules.specs.declared.fault.Fault.{Fault}
use Rattle.rules.specs.declared.verdict.Verdict.{Verdict}
use Rattle.rules.specs.declared.verdict.Verdict.TheVariants.{Open, Void}
use Rattle.rules.specs.Plans.{lawful, all_lawful, window_at, lies, inside, Single, firsts, Keeps, Supported, Trimmed, Filled}
use Rattle.rules.specs.Refusals.{window_refusal}
use Rattle.rules.specs.Meaning.{Scope, Meaning, Settled, Opened, Voided, Narrowed}
use Rattle.rules.proofs.Windows.{Holds, lawful_at, lies-length, lies_put, inside_same, firsts_lie, length-firsts, holds_first, holds_last}
use Rattle.rules.proofs.Failing.{takes}
use Rattle.rules.proofs.Trimming.{narrowed_at}
use Rattle.layers.specs.Leading.{leading, clip, on_leading}

-- what holds of a list of windows holds of its first k and of the rest
pub lawful-take : (k : ℕ) (ws : List Window) → all_lawful ws ≡ true → all_lawful (take k ws) ≡ true
lawful-take zero ws h = refl
lawful-take (suc k) [] h = refl
lawful-take (suc k) (w ∷ ws) h = and_from _ _ (and_parts _ _ h).0 (lawful-take k ws (and_parts _ _ h).1)

pub lawful-drop : (k : ℕ) (ws : List Window) → all_lawful ws ≡ true → all_lawful (drop k ws) ≡ true
lawful-drop zero ws h = h
lawful-drop (suc k) [] h = refl
lawful-drop (suc k) (w ∷ ws) h = lawful-drop k ws (and_parts _ _ h).1

pub lies-take : (k : ℕ) (x : List ℤ) (ws : List Window) → lies x ws ≡ true → lies (take k x) (take k ws) ≡ true
lies-take zero x ws h = refl
lies-take (suc k) [] [] h = refl
lies-take (suc k) [] (w ∷ ws) h = search rules
lies-take (suc k) (v ∷ x) [] h = search rules
lies-take (suc k) (v ∷ x) (w ∷ ws) h = and_from _ _ (and_parts _ _ h).0 (lies-take k x ws (and_parts _ _ h).1)

pub lies-drop : (k : ℕ) (x : List ℤ) (ws : List Window) → lies x ws ≡ true → lies (drop k x) (drop k ws) ≡ true
lies-drop zero x ws h = h
lies-drop (suc k) [] [] h = refl
lies-drop (suc k) [] (w ∷ ws) h = search rules
lies-drop (suc k) (v ∷ x) [] h = search rules
lies-drop (suc k) (v ∷ x) (w ∷ ws) h = lies-drop k x ws (and_parts _ _ h).1

pub single_take : (k : ℕ) (ws : List Window) → Single ws → Single (take k ws)
single_take k ws s i l = rw (get_or-take k ws i _ (omega (arith, length-take k ws))) (s i (omega (arith, length-take k ws)))

pub firsts-take : (k : ℕ) (ws : List Window) → firsts (take k ws) ≡ take k (firsts ws)
firsts-take zero ws = refl
firsts-take (suc k) [] = refl
firsts-take (suc k) (w ∷ ws) = ap (λ (x : List ℤ). w.first ∷ x) (firsts-take k ws)

-- two lists of windows, one after the other
pub lawful-append : (us vs : List Window) → all_lawful us ≡ true → all_lawful vs ≡ true → all_lawful (us ++ vs) ≡ true
lawful-append [] vs g h = h
lawful-append (u ∷ us) vs g h = and_from _ _ (and_parts _ _ g).0 (lawful-append us vs (and_parts _ _ g).1 h)

pub inside-append : (us vs ws zs : List Window) → inside us ws ≡ true → inside vs zs ≡ true → inside (us ++ vs) (ws ++ zs) ≡ true
inside-append [] vs [] zs g h = h
inside-append [] vs (w ∷ ws) zs g h = search rules
inside-append (u ∷ us) vs [] zs g h = search rules
inside-append (u ∷ us) vs (w ∷ ws) zs g h = and_from _ _ (and_parts _ _ g).0 (inside-append us vs ws zs (and_parts _ _ g).1 h)

pub lies-append : (x y : List ℤ) (ws zs : List Window) → lies x ws ≡ true → lies y zs ≡ true → lies (x ++ y) (ws ++ zs) ≡ true
lies-append [] y [] zs g h = h
lies-append [] y (w ∷ ws) zs g h = search rules
lies-append (v ∷ x) y [] zs g h = search rules
lies-append (v ∷ x) y (w ∷ ws) zs g h = and_from _ _ (and_parts _ _ g).0 (lies-append x y ws zs (and_parts _ _ g).1 h)

pub take_min : {X : Type 0} (n k : ℕ) (xs : List X) → take n (take k xs) ≡ take (min n k) xs
take_min zero k xs = simp unary_clauses
take_min (suc n) zero xs = simp unary_clauses
take_min (suc n) (suc k) [] = simp unary_clauses
take_min (suc n) (suc k) (x ∷ xs) = simp unary_clauses (ap (λ ys. x ∷ ys) (take_min n k xs))

-- what would strike nothing from the first k windows strikes nothing from all of them
pub settled_clip : (k : ℕ) (ss : List Scope) (ws : List Window) → Settled ss (take k ws) → Settled (map (clip k) ss) ws
settled_clip k [] ws h = tt
settled_clip k (s ∷ ss) ws h = (subst (Trimmed s.allows) (take_min s.width k ws) h.0, settled_clip k ss ws h.1)

-- the windows us, and after them more that are lawful: a plan in us goes on with any values there
module _ (A : List ℤ → Bool) (us rest : List Window) (ok : all_lawful rest ≡ true) where
  abbrev n : ℕ
  n = length us

  -- a value in us
  supported_front : (i : ℕ) (v : ℤ) → i < n → Supported A us i v → Supported (leading n A) (us ++ rest) i v
  supported_front i v l s =
      let long : length s.plan ≡ n = lies-length s.plan us s.there in
      record {
        plan = s.plan ++ firsts rest;
        allowed = ap A (take_at s.plan (firsts rest) n long) ∙ s.allowed;
        there = lies-append s.plan (firsts rest) us rest s.there (firsts_lie rest ok);
        at = get_or_append_left s.plan (firsts rest) _ i (omega arith) ∙ s.at;
      }

  -- a value after us, where some plan lies in us
  supported_rest : (x : List ℤ) (i : ℕ) (v : ℤ) → A x ≡ true → lies x us ≡ true → n ≤ i → i < length (us ++ rest) → Holds (window_at rest (i - n)) v → Supported (leading n A) (us ++ rest) i v
  supported_rest x i v a h low high b =
      let long : length x ≡ n = lies-length x us h in
      let room : i - n < length (firsts rest) = omega (arith, length-append us rest, length-firsts rest) in
      record {
        plan = x ++ set (firsts rest) (i - n) v;
        allowed = ap A (take_at x _ n long) ∙ a;
        there = lies-append x (set (firsts rest) (i - n) v) us rest h (lies_put (firsts rest) rest (i - n) v (firsts_lie rest ok) b);
        at = get_or-append_right x (set (firsts rest) (i - n) v) n i _ long low ∙ get_or-set_same (firsts rest) (i - n) v _ room;
      }

  module _ (some : 0 < n) (front : all_lawful us ≡ true) where
    lawful_all : (i : ℕ) → i < length (us ++ rest) → lawful (window_at (us ++ rest) i) ≡ true
    lawful_all i l = lawful_at (us ++ rest) i (lawful-append us rest front ok) l

    at_front : (i : ℕ) → i < n → window_at us i ≡ window_at (us ++ rest) i
    at_front i l = sym (get_or_append_left us rest _ i l)

    at_rest : (i : ℕ) → n ≤ i → window_at (us ++ rest) i ≡ window_at rest (i - n)
    at_rest i l = get_or-append_right us rest n i _ refl l

    -- an end or a value of any window, from those of the windows us
    supported_all : (i : ℕ) (v : ℤ) → Supported A us 0 (window_at us 0).first → i < length (us ++ rest) → Holds (window_at (us ++ rest) i) v → (i < n → Supported A us i v) → Supported (leading n A) (us ++ rest) i v
    supported_all i v s l h f = elim (cases_lt i n) [
      | inl low ↦ supported_front i v low (f low)
      | inr high ↦ supported_rest s.plan i v s.allowed s.there high l (subst (λ (w : Window). Holds w v) (at_rest i high) h)
    ]

    pub trimmed_leading : Trimmed A us → Trimmed (leading n A) (us ++ rest)
    trimmed_leading t =
        record {
          first_end = λ i l. supported_all i _ (t.first_end 0 some) l (holds_first _ (lawful_all i l)) (λ low. subst (λ (w : Window). Supported A us i w.first) (at_front i low) (t.first_end i low));
          last_end = λ i l. supported_all i _ (t.first_end 0 some) l (holds_last _ (lawful_all i l)) (λ low. subst (λ (w : Window). Supported A us i w.last) (at_front i low) (t.last_end i low));
        }

    pub filled_leading : Filled A us → Filled (leading n A) (us ++ rest)
    filled_leading f =
        let first = holds_first (window_at us 0) (lawful_at us 0 front some) in
        record {
          each = λ i v l low high.
              supported_all i v (f.each 0 _ some first.low first.high) l (record { low = low; high = high }) (λ h.
              let held = subst (λ (w : Window). Holds w v) (sym (at_front i h)) (record { low = low; high = high }) in
              f.each i v h held.low held.high);
        }

-- the rule m is asked on the first of the windows vs
module _ (m : Meaning) (vs : List Window) (ok : all_lawful vs ≡ true) (some : 1 ≤ m.scope.width) (room : m.scope.width ≤ length vs) where
  abbrev k : ℕ
  k = m.scope.width

  abbrev front : List Window
  front = take k vs

  abbrev rest : List Window
  rest = drop k vs

  front_taken : window_refusal k front ≡ None
  front_taken = takes k front (lawful-take k vs ok) (length-take-le k vs room)

  all_taken : window_refusal (length vs) vs ≡ None
  all_taken = takes (length vs) vs ok refl

  -- it leaves the windows us of them
  module _ (us : List Window) where
    keeps_rest : Keeps m.scope.allows front us → Keeps (leading k m.scope.allows) vs (us ++ rest)
    keeps_rest h x a l =
        let first : lies (take k x) us ≡ true = h _ a (lies-take k x vs l) in
        subst (λ (y : List ℤ). lies y (us ++ rest) ≡ true) (take-append-drop k x) (lies-append _ _ us rest first (lies-drop k x vs l))

    inside_rest : inside us front ≡ true → inside (us ++ rest) vs ≡ true
    inside_rest h = subst (λ (ws : List Window). inside (us ++ rest) ws ≡ true) (take-append-drop k vs) (inside-append us rest front rest h (inside_same rest))

    open_leading : length us ≡ k → Opened m front us → Opened (on_leading (length vs) m) vs (us ++ rest)
    open_leading long o =
        let after : all_lawful rest ≡ true = lawful-drop k vs ok in
        let some-us : 0 < length us = omega arith in
        let A = m.scope.allows in
        record {
          accepted = all_taken;
          lawful_after = lawful-append us rest o.lawful_after after;
          shrinks = inside_rest o.shrinks;
          keeps = keeps_rest o.keeps;
          decides = λ s. ap m.scope.allows (sym (firsts-take k vs)) ∙ o.decides (single_take k vs s);
          ends = λ e. subst (λ (j : ℕ). Trimmed (leading j A) (us ++ rest)) long (trimmed_leading A us rest after some-us o.lawful_after (o.ends e));
          values = λ e. subst (λ (j : ℕ). Filled (leading j A) (us ++ rest)) long (filled_leading A us rest after some-us o.lawful_after (o.values e));
          settles = settled_clip k m.joined (us ++ rest) (rw (take_at us rest k long) o.settles);
        }

    void_leading : Voided m front us → Voided (on_leading (length vs) m) vs (us ++ rest)
    void_leading o =
        record {
          accepted = all_taken;
          stays = ap (λ (ws : List Window). ws ++ rest) o.stays ∙ take-append-drop k vs;
          none = λ x a h. o.none (take k x) a (lies-take k x vs h);
        }

    -- what the rule says of them, said of all windows
    asked_leading : (v : Verdict) → length us ≡ k → Narrowed m front (Ok v) us → Narrowed (on_leading (length vs) m) vs (Ok v) (us ++ rest)
    asked_leading Open long o = open_leading long o
    asked_leading Void long o = void_leading o

    -- it does not refuse them
    never_refused : (f : Fault) → Narrowed m front (Err f) us → ⊥
    never_refused f r = let a = front_taken in let b = r.because in let z : ◌≡◌ {A = ℕ} 0 1 = cc in omega arith

-- the same as the code has it: the columns were asked for first
module _ (m m' : Meaning) (n : ℕ) (vs ys : List Window) (same : m' ≡ m) (wide : n ≡ m.scope.width) (ok : all_lawful vs ≡ true) (some : 1 ≤ n) (room : m.scope.width ≤ length vs) where
  asked_again : (r : Result Verdict Fault) → Narrowed m' (take n vs) r ys → Narrowed m (take m.scope.width vs) r ys
  asked_again r h = subst (λ (k : ℕ). Narrowed m (take k vs) r ys) wide (narrowed_at m m' (take n vs) ys r same h)

  pub asked : (v : Verdict) → length ys ≡ length (take n vs) → Narrowed m' (take n vs) (Ok v) ys → Narrowed (on_leading (length vs) m) vs (Ok v) (ys ++ drop n vs)
  asked v long h =
      let wide-ys : length ys ≡ m.scope.width = omega (arith, length-take n vs) in
      subst (λ (k : ℕ). Narrowed (on_leading (length vs) m) vs (Ok v) (ys ++ drop k vs)) (sym wide) (asked_leading m vs ok (omega arith) room ys v wide-ys (asked_again (Ok v) h))

  -- it does not refuse them
  pub answered : (r : Result Verdict Fault) → Narrowed m' (take n vs) r ys → IsOk r
  answered (Ok v) h = refl
  answered (Err f) h = absurd (never_refused m vs ok (omega arith) room ys f (asked_again (Err f) h))
