-- What relations leave of two windows.
use Rattle.std.proofs.Common.{◌≡◌, Bool, true, false, ◌||◌, ◌⊎◌, ℤ, pos, negsuc, ◌+ℤ◌, ◌-ℤ◌, ◌≤ℤ◌, Some, None, Option, sym, refl, subst, inl, inr, ⊎_elim, arith, w32, SFits}
use lib.Signed.{lt_z}
use Rattle.std.specs.Option.{option_map}
use Rattle.std.specs.Int.{int_max, int_min}
use Rattle.std.proofs.lemmas.Bool.{or_cases, or_left, or_right, cases_cond}
use Rattle.std.proofs.lemmas.Int.{ints, clamps}
use Rattle.rules.specs.declared.window.Window.{Window}
use Rattle.differences.specs.Apart.{ahead, InRange}
use Rattle.rules.specs.Plans.{spanned}
use Rattle.differences.specs.Pairs.{In, Inside, Pair, PairLeft, PairLeaves}

ahead_le : (gap x y : ℤ) → ahead gap x y ≡ true → x ≤ℤ (y -ℤ gap)
ahead_le gap x y h = grind (arith, ints)

le_ahead : (gap x y : ℤ) → x ≤ℤ (y -ℤ gap) → ahead gap x y ≡ true
le_ahead gap x y h = grind (arith, ints)

-- a value less a gap, and with a gap added, fits an i32
pub less_fits : (v gap : ℤ) → negsuc 29999999 ≤ℤ v → v ≤ℤ pos 30000000 → InRange gap → SFits w32 (v -ℤ gap)
less_fits v gap l h r = omega (arith, ints)

pub more_fits : (v gap : ℤ) → negsuc 29999999 ≤ℤ v → v ≤ℤ pos 30000000 → InRange gap → SFits w32 (v +ℤ gap)
more_fits v gap l h r = omega (arith, ints)

-- one column ahead of the other: the first value of a and the last of b support all four ends
module _ (gap : ℤ) (a b v w : Window) (a-order : a.first ≤ℤ a.last) (b-order : b.first ≤ℤ b.last) (some : lt_z (b.last -ℤ gap) a.first ≡ false) (v-first : v.first ≡ a.first) (v-last : v.last ≡ int_min a.last (b.last -ℤ gap)) (w-first : w.first ≡ int_max b.first (a.first +ℤ gap)) (w-last : w.last ≡ b.last) where
  first_ahead : a.first ≤ℤ (b.last -ℤ gap)
  first_ahead = grind (arith, ints)

  pair : (x y : ℤ) → x ≤ℤ (y -ℤ gap) → In a x → In b y → Pair (ahead gap) v w x y
  pair x y r p q =
      record { related = le_ahead gap x y r; one = (omega (arith, ints), omega (arith, ints, clamps)); other = (omega (arith, ints, clamps), omega (arith, ints)) }

  -- a value of v with the last of b, and the first of a with a value of w
  with_last : (x : ℤ) → In v x → Pair (ahead gap) v w x b.last
  with_last x p = pair x b.last (omega (arith, ints, clamps)) (omega (arith, ints), omega (arith, ints, clamps)) (b-order, omega (arith, ints))

  with_first : (y : ℤ) → In w y → Pair (ahead gap) v w a.first y
  with_first y p = pair a.first y (omega (arith, ints, clamps)) (omega (arith, ints), a-order) (omega (arith, ints, clamps), omega (arith, ints))

  pub ahead_left : PairLeft (ahead gap) a b v w
  ahead_left =
      let v-order : v.first ≤ℤ v.last = omega (arith, ints, clamps, first_ahead) in
      let w-order : w.first ≤ℤ w.last = omega (arith, ints, clamps, first_ahead) in
      record {
        one_within = (omega (arith, ints), omega (arith, ints, clamps));
        other_within = (omega (arith, ints, clamps), omega (arith, ints));
        keeps = λ x y p. pair x y (ahead_le gap x y p.related) p.one p.other;
        one_first = (b.last, with_last v.first (omega (arith, ints), v-order));
        one_last = (b.last, with_last v.last (v-order, omega (arith, ints)));
        other_first = (a.first, with_first w.first (omega (arith, ints), w-order));
        other_last = (a.first, with_first w.last (w-order, omega (arith, ints)));
      }

-- the other order
pair_exchanged : (R : ℤ → ℤ → Bool) (a b : Window) (x y : ℤ) → Pair R b a y x → Pair (λ x y. R y x) a b x y
pair_exchanged R a b x y p = record { related = p.related; one = p.other; other = p.one }

pub left_exchanged : (R : ℤ → ℤ → Bool) (a b v w : Window) → PairLeft R b a v w → PairLeft (λ x y. R y x) a b w v
left_exchanged R a b v w l =
    record {
      one_within = l.other_within;
      other_within = l.one_within;
      keeps = λ x y p. pair_exchanged R w v x y (l.keeps y x (pair_exchanged (λ x y. R y x) b a y x p));
      one_first = (l.other_first.0, pair_exchanged R w v _ _ l.other_first.1);
      one_last = (l.other_last.0, pair_exchanged R w v _ _ l.other_last.1);
      other_first = (l.one_first.0, pair_exchanged R w v _ _ l.one_first.1);
      other_last = (l.one_last.0, pair_exchanged R w v _ _ l.one_last.1);
    }

pub leaves_exchanged : (R : ℤ → ℤ → Bool) (a b : Window) (o : Option (Window × Window)) → PairLeaves R b a o → PairLeaves (λ x y. R y x) a b (option_map (λ p. (p.1, p.0)) o)
leaves_exchanged R a b None none = λ x y p. none y x (pair_exchanged (λ x y. R y x) b a y x p)
leaves_exchanged R a b (Some (v, w)) l = left_exchanged R a b v w l

-- a wider relation has the pairs of R, in wider windows too, and leaves the same where it has no others
module _ (R T : ℤ → ℤ → Bool) (wider : (x y : ℤ) → R x y ≡ true → T x y ≡ true) where
  pair_wider : (v w a b : Window) → Inside v a → Inside w b → (x y : ℤ) → Pair R v w x y → Pair T a b x y
  pair_wider v w a b f g x y p =
      record { related = wider x y p.related; one = (omega (arith, ints), omega (arith, ints)); other = (omega (arith, ints), omega (arith, ints)) }

  leaves_wider : (a b : Window) (o : Option (Window × Window)) → ((x y : ℤ) → Pair T a b x y → Pair R a b x y) → PairLeaves R a b o → PairLeaves T a b o
  leaves_wider a b None only l = λ x y p. l x y (only x y p)
  leaves_wider a b (Some (v, w)) only l =
      let same : (x y : ℤ) → Pair R v w x y → Pair T v w x y = pair_wider v w v w (omega (arith, ints), omega (arith, ints)) (omega (arith, ints), omega (arith, ints)) in
      record {
        one_within = l.one_within;
        other_within = l.other_within;
        keeps = λ x y p. same x y (l.keeps x y (only x y p));
        one_first = (l.one_first.0, same _ _ l.one_first.1);
        one_last = (l.one_last.0, same _ _ l.one_last.1);
        other_first = (l.other_first.0, same _ _ l.other_first.1);
        other_last = (l.other_last.0, same _ _ l.other_last.1);
      }

-- both of two windows lie in their span
span_left : (v w : Window) → Inside v (spanned v w)
span_left v w = (omega (arith, ints, clamps), omega (arith, ints, clamps))

span_right : (v w : Window) → Inside w (spanned v w)
span_right v w = (omega (arith, ints, clamps), omega (arith, ints, clamps))

-- a number that is one of two
one_of : (P : ℤ → Type 0) (x y z : ℤ) → (z ≡ x) ⊎ (z ≡ y) → P x → P y → P z
one_of P x y z (inl e) p q = subst P (sym e) p
one_of P x y z (inr e) p q = subst P (sym e) q

-- one relation or the other: what they leave together, from what each leaves
module _ (R S : ℤ → ℤ → Bool) (a b : Window) where
  abbrev pub either : ℤ → ℤ → Bool
  either x y = R x y || S x y

  parts : (x y : ℤ) → Pair either a b x y → Pair R a b x y ⊎ Pair S a b x y
  parts x y p =
      ⊎_elim (λ h. inl (record { related = h; one = p.one; other = p.other })) (λ h. inr (record { related = h; one = p.one; other = p.other }))
      (or_cases (R x y) (S x y) p.related)

  pub joined_left : (o : Option (Window × Window)) → PairLeaves R a b o → PairLeaves S a b None → PairLeaves either a b o
  joined_left o r s =
      leaves_wider R either (λ x y h. or_left (R x y) (S x y) h) a b o (λ x y p. ⊎_elim (λ h. h) (λ h. absurd (s x y h)) (parts x y p)) r

  pub joined_right : (o : Option (Window × Window)) → PairLeaves R a b None → PairLeaves S a b o → PairLeaves either a b o
  joined_right o r s =
      leaves_wider S either (λ x y h. or_right (R x y) (S x y) h) a b o (λ x y p. ⊎_elim (λ h. absurd (r x y h)) (λ h. h) (parts x y p)) s

  module _ (v w v' w' : Window) (r : PairLeft R a b v w) (s : PairLeft S a b v' w') where
    abbrev Both : ℤ → ℤ → Type 0
    Both x y = Pair either (spanned v v') (spanned w w') x y

    from_left : (x y : ℤ) → Pair R v w x y → Both x y
    from_left = pair_wider R either (λ x y h. or_left (R x y) (S x y) h) v w (spanned v v') (spanned w w') (span_left v v') (span_left w w')

    from_right : (x y : ℤ) → Pair S v' w' x y → Both x y
    from_right = pair_wider S either (λ x y h. or_right (R x y) (S x y) h) v' w' (spanned v v') (spanned w w') (span_right v v') (span_right w w')

    -- with some value of the other column, and of the one
    abbrev WithOther : ℤ → Type 0
    WithOther x = (y : ℤ) × Both x y

    abbrev WithOne : ℤ → Type 0
    WithOne y = (x : ℤ) × Both x y

    pub joined_both : PairLeft either a b (spanned v v') (spanned w w')
    joined_both =
        record {
          one_within = (omega (arith, ints, clamps, r.one_within, s.one_within), omega (arith, ints, clamps, r.one_within, s.one_within));
          other_within = (omega (arith, ints, clamps, r.other_within, s.other_within), omega (arith, ints, clamps, r.other_within, s.other_within));
          keeps = λ x y p. ⊎_elim (λ h. from_left x y (r.keeps x y h)) (λ h. from_right x y (s.keeps x y h)) (parts x y p);
          one_first = one_of WithOther _ _ _ (cases_cond (lt_z v'.first v.first) _ _ _ refl) (s.one_first.0, from_right _ _ s.one_first.1) (r.one_first.0, from_left _ _ r.one_first.1);
          one_last = one_of WithOther _ _ _ (cases_cond (lt_z v'.last v.last) _ _ _ refl) (r.one_last.0, from_left _ _ r.one_last.1) (s.one_last.0, from_right _ _ s.one_last.1);
          other_first = one_of WithOne _ _ _ (cases_cond (lt_z w'.first w.first) _ _ _ refl) (s.other_first.0, from_right _ _ s.other_first.1) (r.other_first.0, from_left _ _ r.other_first.1);
          other_last = one_of WithOne _ _ _ (cases_cond (lt_z w'.last w.last) _ _ _ refl) (r.other_last.0, from_left _ _ r.other_last.1) (s.other_last.0, from_right _ _ s.other_last.1);
        }
