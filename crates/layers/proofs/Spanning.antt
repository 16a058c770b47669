-- What one of two rules leaves, from what each of them leaves.
use Rattle.std.proofs.Common.{◌≡◌, ℕ, ◌<◌, Bool, true, false, ◌||◌, ◌⊎◌, List, length, ℤ, None, Ok, sym, refl, ap, ◌∙◌, subst, ⊎_elim, arith}
use lib.Signed.{lt_z}
use Rattle.std.specs.Int.{int_max, int_min}
use Rattle.std.proofs.lemmas.Int.{ints, clamps}
use Rattle.std.proofs.lemmas.Bool.{and_parts, both_ways, cases_cond, or_cases, or_left, or_right}
use Rattle.rules.specs.declared.window.Window.{Window}
use Rattle.rules.specs.declared.verdict.Verdict.{Verdict}
use Rattle.rules.specs.declared.verdict.Verdict.TheVariants.{Open, Void}
use Rattle.rules.specs.Plans.{all_lawful, window_at, lies, inside, firsts, Supported, Trimmed, spanned}
use Rattle.rules.specs.Refusals.{window_refusal}
use Rattle.rules.specs.Meaning.{Scope, Meaning, Opened, Voided, Narrowed}
use Rattle.rules.proofs.Windows.{inside_same, inside_at, inside-length, inside_from, lies-inside, lawful_at, lawful_ends, lawful_from}
use Rattle.rules.proofs.Failing.{taken}
use Rattle.layers.specs.Leading.{on_leading}
use Rattle.layers.specs.Either.{either_meaning}
use Rattle.layers.specs.Owning.{own_rule}
use Rattle.layers.proofs.Owning.{own_settles}

-- a value that is supported stays so in wider windows, where more is allowed
supported_wider : (P R : List ℤ → Bool) (us ws : List Window) → ((x : List ℤ) → P x ≡ true → R x ≡ true) → inside us ws ≡ true → (i : ℕ) (v : ℤ) → Supported P us i v → Supported R ws i v
supported_wider P R us ws more wide i v s =
    record { plan = s.plan; allowed = more s.plan s.allowed; there = lies-inside s.plan us ws s.there wide; at = s.at }

-- the layer's own scope, of the width of the windows vs
module _ (s : Scope) (tight : Bool) (vs : List Window) (ok : window_refusal s.width vs ≡ None) where
  -- a rule p allows what the layer does, of the plans in vs: what it leaves is what the layer leaves
  pub opened_by : (p : Meaning) (ws : List Window) → ((x : List ℤ) → p.scope.allows x ≡ true → s.allows x ≡ true) → ((x : List ℤ) → s.allows x ≡ true → lies x vs ≡ true → p.scope.allows x ≡ true) → (tight ≡ true → p.tight ≡ true) → Opened p vs ws → Opened (own_rule s tight false) vs ws
  opened_by p ws more less claims o =
      let wider = supported_wider p.scope.allows s.allows ws ws more (inside_same ws) in
      let ends : tight ≡ true → Trimmed s.allows ws = λ e. record { first_end = λ i l. wider i _ ((o.ends (claims e)).first_end i l); last_end = λ i l. wider i _ ((o.ends (claims e)).last_end i l) } in
      record {
        accepted = ok;
        lawful_after = o.lawful_after;
        shrinks = o.shrinks;
        keeps = λ x a h. o.keeps x (less x a h) h;
        decides = λ one. more (firsts vs) (o.decides one);
        ends = ends;
        values = λ e. absurd (both_ways _ refl e);
        settles = own_settles s tight false ws (inside-length ws vs o.shrinks ∙ (taken s.width vs ok).1) ends;
      }

min_of : (x y : ℤ) → (int_min x y ≡ y) ⊎ (int_min x y ≡ x)
min_of x y = cases_cond (lt_z y x) _ _ _ refl

max_of : (x y : ℤ) → (int_max x y ≡ x) ⊎ (int_max x y ≡ y)
max_of x y = cases_cond (lt_z y x) _ _ _ refl

-- the windows ws hold those of us and of ys, and no more than they need
module _ (us ys ws : List Window) (even : length us ≡ length ys) (long : length ws ≡ length ys) (each : (k : ℕ) → k < length ys → window_at ws k ≡ spanned (window_at us k) (window_at ys k)) where
  span_first : (k : ℕ) → k < length ys → (window_at ws k).first ≡ int_min (window_at us k).first (window_at ys k).first
  span_first k l = ap (λ (w : Window). w.first) (each k l)

  span_last : (k : ℕ) → k < length ys → (window_at ws k).last ≡ int_max (window_at us k).last (window_at ys k).last
  span_last k l = ap (λ (w : Window). w.last) (each k l)

  one_inside : inside us ws ≡ true
  one_inside =
      inside_from us ws (even ∙ sym long) λ k l.
      let first = span_first k (omega arith) in
      let last = span_last k (omega arith) in
      record { low = omega (arith, ints, clamps); high = omega (arith, ints, clamps) }

  other_inside : inside ys ws ≡ true
  other_inside =
      inside_from ys ws (sym long) λ k l.
      let first = span_first k l in
      let last = span_last k l in
      record { low = omega (arith, ints, clamps); high = omega (arith, ints, clamps) }

  span_inside : (vs : List Window) → inside us vs ≡ true → inside ys vs ≡ true → inside ws vs ≡ true
  span_inside vs h g =
      inside_from ws vs (long ∙ inside-length ys vs g) λ k l.
      let first = span_first k (omega arith) in
      let last = span_last k (omega arith) in
      let one = inside_at us vs k h (omega arith) in
      let other = inside_at ys vs k g (omega arith) in
      record { low = omega (arith, ints, clamps); high = omega (arith, ints, clamps) }

  span_lawful : all_lawful us ≡ true → all_lawful ys ≡ true → all_lawful ws ≡ true
  span_lawful h g =
      lawful_from ws λ k l.
      let first = span_first k (omega arith) in
      let last = span_last k (omega arith) in
      let one = lawful_ends (window_at us k) (lawful_at us k h (omega arith)) in
      let other = lawful_ends (window_at ys k) (lawful_at ys k g (omega arith)) in
      record { low = omega (arith, ints, clamps); high = omega (arith, ints, clamps); order = omega (arith, ints, clamps) }

  -- an end of ws is that of us or of ys
  module _ (P Q : List ℤ → Bool) where
    abbrev R : List ℤ → Bool
    R x = P x || Q x

    from_one : (i : ℕ) (v : ℤ) → Supported P us i v → Supported R ws i v
    from_one = supported_wider P R us ws (λ x h. or_left (P x) (Q x) h) one_inside

    from_other : (i : ℕ) (v : ℤ) → Supported Q ys i v → Supported R ws i v
    from_other = supported_wider Q R ys ws (λ x h. or_right (P x) (Q x) h) other_inside

    span_trimmed : Trimmed P us → Trimmed Q ys → Trimmed R ws
    span_trimmed t u =
        record {
          first_end = λ i l.
              let here : i < length ys = omega arith in
              let end = span_first i here in
              ⊎_elim (λ e. subst (Supported R ws i) (sym (end ∙ e)) (from_other i _ (u.first_end i here))) (λ e. subst (Supported R ws i) (sym (end ∙ e)) (from_one i _ (t.first_end i (omega arith)))) (min_of _ _);
          last_end = λ i l.
              let here : i < length ys = omega arith in
              let end = span_last i here in
              ⊎_elim (λ e. subst (Supported R ws i) (sym (end ∙ e)) (from_one i _ (t.last_end i (omega arith)))) (λ e. subst (Supported R ws i) (sym (end ∙ e)) (from_other i _ (u.last_end i here))) (max_of _ _);
        }

-- the rules a and b were asked on the windows vs
module _ (a b : Meaning) (vs : List Window) (ok : window_refusal (either_meaning a b).scope.width vs ≡ None) where
  abbrev P : Meaning
  P = on_leading (length vs) a

  abbrev Q : Meaning
  Q = on_leading (length vs) b

  abbrev E : Meaning
  E = either_meaning a b

  first_allows : (x : List ℤ) → P.scope.allows x ≡ true → E.scope.allows x ≡ true
  first_allows x h = or_left _ (Q.scope.allows x) h

  second_allows : (x : List ℤ) → Q.scope.allows x ≡ true → E.scope.allows x ≡ true
  second_allows x h = or_right (P.scope.allows x) _ h

  -- one is void
  pub first_void : (v : Verdict) (us ws : List Window) → Voided P vs us → Narrowed Q vs (Ok v) ws → Narrowed E vs (Ok v) ws
  first_void Open us ws n o =
      opened_by E.scope E.tight vs ok Q ws second_allows (λ x e h. ⊎_elim (λ p. absurd (n.none x p h)) (λ q. q) (or_cases _ _ e)) (λ t. (and_parts _ _ t).1) o
  first_void Void us ws n o =
      record { accepted = ok; stays = o.stays; none = λ x e h. ⊎_elim (λ p. n.none x p h) (λ q. o.none x q h) (or_cases _ _ e) }

  pub second_void : (us ws : List Window) → Opened P vs us → Voided Q vs ws → Opened E vs us
  second_void us ws o n =
      opened_by E.scope E.tight vs ok P us first_allows (λ x e h. ⊎_elim (λ p. p) (λ q. absurd (n.none x q h)) (or_cases _ _ e)) (λ t. (and_parts _ _ t).0) o

  -- both are open
  pub both_open : (us ys ws : List Window) → Opened P vs us → Opened Q vs ys → length ws ≡ length ys → ((k : ℕ) → k < length ys → window_at ws k ≡ spanned (window_at us k) (window_at ys k)) → Opened E vs ws
  both_open us ys ws o p long each =
      let even : length us ≡ length ys = inside-length us vs o.shrinks ∙ sym (inside-length ys vs p.shrinks) in
      let ends : E.tight ≡ true → Trimmed E.scope.allows ws = λ t. span_trimmed us ys ws even long each P.scope.allows Q.scope.allows (o.ends (and_parts _ _ t).0) (p.ends (and_parts _ _ t).1) in
      record {
        accepted = ok;
        lawful_after = span_lawful us ys ws even long each o.lawful_after p.lawful_after;
        shrinks = span_inside us ys ws even long each vs o.shrinks p.shrinks;
        keeps = λ x e h.
            ⊎_elim (λ q. lies-inside x us ws (o.keeps x q h) (one_inside us ys ws even long each)) (λ q. lies-inside x ys ws (p.keeps x q h) (other_inside us ys ws even long each)) (or_cases _ _ e);
        decides = λ one. first_allows (firsts vs) (o.decides one);
        ends = ends;
        values = λ e. absurd (both_ways _ refl e);
        settles = own_settles E.scope E.tight false ws (long ∙ inside-length ys vs p.shrinks ∙ (taken E.scope.width vs ok).1) ends;
      }

-- the same as the code has it: the rule a was asked on a copy of the windows
pub copy_asked : (a : Meaning) (vs copy us : List Window) (v : Verdict) → copy ≡ vs → Narrowed (on_leading (length copy) a) copy (Ok v) us → Narrowed (on_leading (length vs) a) vs (Ok v) us
copy_asked a vs copy us v e h = subst (λ (zs : List Window). Narrowed (on_leading (length zs) a) zs (Ok v) us) e h

-- rules of the same meanings
pub either_same : (a a' b b' : Meaning) → a ≡ a' → b ≡ b' → either_meaning a b ≡ either_meaning a' b'
either_same a a' b b' one other = λ i. either_meaning (one i) (other i)
