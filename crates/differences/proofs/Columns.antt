-- Two columns of many: what a relation leaves of their windows, it leaves of the list.
use Rattle.std.proofs.Common.{◌≡◌, ℕ, ◌<◌, Bool, true, List, length, set, ℤ, ◌≤ℤ◌, None, sym, ap, ◌∙◌, subst, ⊎_elim, arith, length-set}
use Rattle.std.proofs.lemmas.List.{get_or-set_same, get_or-set_other}
use Rattle.std.proofs.lemmas.Bool.{cases_eq}
use Rattle.std.proofs.lemmas.Int.{ints}
use Rattle.rules.specs.declared.window.Window.{Window}
use Rattle.rules.specs.Plans.{lawful, all_lawful, window_at, value_at, lies, inside, firsts, NoPlan, Keeps, Supported}
use Rattle.rules.specs.Enumeration.{Left}
use Rattle.rules.proofs.Windows.{lawful_at, lawful_ends, ends_lawful, Holds, holds_first, holds_last, lies_put, lies_at, lies-set, lawful-set, inside-set, inside_trans, firsts_lie, length-firsts}
use Rattle.differences.specs.Pairs.{Inside, Pair, PairLeft, PairLeaves}

lawful-inside : (w v : Window) → lawful v ≡ true → Inside w v → w.first ≤ℤ w.last → lawful w ≡ true
lawful-inside w v h i o = let e = lawful_ends v h in ends_lawful w (record { low = omega (arith, ints); high = omega (arith, ints); order = o })

-- the plans whose values in two columns are related
abbrev pub between : (ℤ → ℤ → Bool) → ℕ → ℕ → List ℤ → Bool
between R one other x = R (value_at x one) (value_at x other)

module _ (R : ℤ → ℤ → Bool) (one other : ℕ) (vs : List Window) (one-there : one < length vs) (other-there : other < length vs) where
  pair_in : (x : List ℤ) → between R one other x ≡ true → lies x vs ≡ true → Pair R (window_at vs one) (window_at vs other) (value_at x one) (value_at x other)
  pair_in x a l =
      let p = lies_at x vs one l one-there in
      let q = lies_at x vs other l other-there in
      record { related = a; one = (p.low, p.high); other = (q.low, q.high) }

  pub no_plan : PairLeaves R (window_at vs one) (window_at vs other) None → NoPlan (between R one other) vs
  no_plan none = λ x a l. none _ _ (pair_in x a l)

  module _ (two : one ≡ other → ⊥) (all : all_lawful vs ≡ true) (v w : Window) (left : PairLeft R (window_at vs one) (window_at vs other) v w) where
    abbrev after : List Window
    after = set (set vs one v) other w

    at_one : window_at after one ≡ v
    at_one = get_or-set_other (set vs one v) other one w _ two ∙ get_or-set_same vs one v _ one-there

    at_other : window_at after other ≡ w
    at_other = get_or-set_same (set vs one v) other w _ (simp length-set other-there)

    after_lawful : all_lawful after ≡ true
    after_lawful =
        lawful-set (set vs one v) other w
        (lawful-set vs one v all (lawful-inside v (window_at vs one) (lawful_at vs one all one-there) left.one_within left.one_first.1.one.1))
        (lawful-inside w (window_at vs other) (lawful_at vs other all other-there) left.other_within left.other_first.1.other.1)

    after_inside : inside after vs ≡ true
    after_inside =
        inside_trans after (set vs one v) vs
        (inside-set (set vs one v) other w (rw (get_or-set_other vs one other v _ (λ e. two (sym e))) (record { low = left.other_within.0; high = left.other_within.1 })))
        (inside-set vs one v (record { low = left.one_within.0; high = left.one_within.1 }))

    after_keeps : Keeps (between R one other) vs after
    after_keeps x a l =
        let p = left.keeps _ _ (pair_in x a l) in
        lies-set x (set vs one v) other w
        (lies-set x vs one v l (record { low = p.one.0; high = p.one.1 }))
        (record { low = p.other.0; high = p.other.1 })

    -- a related pair supports its own two values, and any value of a third column
    module _ (x y : ℤ) (p : Pair R v w x y) (i : ℕ) (u : ℤ) (there : i < length after) (held : Holds (window_at after i) u) (is_one : i ≡ one → u ≡ x) (is-other : i ≡ other → u ≡ y) where
      abbrev plan : List ℤ
      plan = set (set (set (firsts after) i u) one x) other y

      plan_one : value_at plan one ≡ x
      plan_one = get_or-set_other (set (set (firsts after) i u) one x) other one y _ two ∙ get_or-set_same (set (firsts after) i u) one x _ (simp (length-set, length-firsts) one-there)

      plan_other : value_at plan other ≡ y
      plan_other = get_or-set_same (set (set (firsts after) i u) one x) other y _ (simp (length-set, length-firsts) other-there)

      plan_at : value_at plan i ≡ u
      plan_at =
          ⊎_elim (λ e. ap (value_at plan) e ∙ plan_other ∙ sym (is-other e)) (λ n.
          ⊎_elim (λ e. ap (value_at plan) e ∙ plan_one ∙ sym (is_one e)) (λ m.
          get_or-set_other (set (set (firsts after) i u) one x) other i y _ n ∙ get_or-set_other (set (firsts after) i u) one i x _ m ∙ get_or-set_same (firsts after) i u _ (simp length-firsts there))
          (cases_eq i one)) (cases_eq i other)

      supported : Supported (between R one other) after i u
      supported =
          let a = plan_one in
          let b = plan_other in
          record {
            plan = plan;
            allowed = ap (λ z. R z (value_at plan other)) a ∙ ap (R x) b ∙ p.related;
            there =
                lies_put (set (set (firsts after) i u) one x) after other y
                (lies_put (set (firsts after) i u) after one x
                (lies_put (firsts after) after i u (firsts_lie after after_lawful) held)
                (subst (λ (z : Window). Holds z x) (sym at_one) (record { low = p.one.0; high = p.one.1 })))
                (subst (λ (z : Window). Holds z y) (sym at_other) (record { low = p.other.0; high = p.other.1 }));
            at = plan_at;
          }

    -- so an end of every window is supported, if it is one in the two windows
    end_supported : (end : Window → ℤ) → ((z : Window) → lawful z ≡ true → Holds z (end z)) → (y : ℤ) → Pair R v w (end v) y → (x : ℤ) → Pair R v w x (end w) → (i : ℕ) → i < length after → Supported (between R one other) after i (end (window_at after i))
    end_supported end is-end y p x q i l =
        let held = is-end (window_at after i) (lawful_at after i after_lawful l) in
        ⊎_elim (λ e. supported (end v) y p i _ l held (λ d. ap (λ j. end (window_at after j)) e ∙ ap end at_one) (λ d. absurd (two (sym e ∙ d)))) (λ m.
        ⊎_elim (λ e. supported x (end w) q i _ l held (λ d. absurd (m d)) (λ d. ap (λ j. end (window_at after j)) e ∙ ap end at_other)) (λ n.
        supported (end v) y p i _ l held (λ d. absurd (m d)) (λ d. absurd (n d)))
        (cases_eq i other)) (cases_eq i one)

    pub columns_left : Left (between R one other) vs after
    columns_left =
        record {
          within = after_inside;
          keeps = after_keeps;
          ends =
              record {
                first_end = end_supported (λ z. z.first) holds_first left.one_first.0 left.one_first.1 left.other_first.0 left.other_first.1;
                last_end = end_supported (λ z. z.last) holds_last left.one_last.0 left.one_last.1 left.other_last.0 left.other_last.1;
              };
        }
