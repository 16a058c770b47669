-- The summands among which a tie is looked for.
use Rattle.std.proofs.Common.{◌≡◌, ℕ, true, eqb, List, ℤ, Option, refl, ◌∙◌}
use Rattle.std.specs.List.{ContainsAt}
use Rattle.std.proofs.lemmas.Bool.{eqb-true, eq-eqb, and_parts, and_from}
use Rattle.std.proofs.lemmas.List.{get_or_default}
use Rattle.std.proofs.lemmas.List.Folds.{Any-from_list_any, list_any-from_Any}
use Rattle.rings.specs.Tables.{tied_to, tied_among, is_tied}

module _ (k : ℕ) (d : ℕ → ℕ → Option ℤ) (p : ℕ) (ss : List ℕ) where
  pub tie_some : tied_among k d p ss ≡ true → (q : ℕ) × ContainsAt ss q × (tied_to k d p q ≡ true)
  tie_some h =
      let (n, q, l, e, t) = Any-from_list_any (tied_to k d p) ss h in
      (q, (n, l, λ x. get_or_default ss n x q l ∙ e), t)

  pub some_tie : (q : ℕ) → ContainsAt ss q → tied_to k d p q ≡ true → tied_among k d p ss ≡ true
  some_tie q (n, l, f) t = list_any-from_Any (tied_to k d p) ss (n, q, l, f q, t)

  pub tied_parts : is_tied k d ss p ≡ true → ContainsAt ss p × (tied_among k d p ss ≡ true)
  tied_parts h =
      let both = and_parts _ _ h in
      let (n, q, l, e, t) = Any-from_list_any (λ (q : ℕ). eqb q p) ss both.0 in
      ((n, l, λ x. get_or_default ss n x q l ∙ e ∙ eqb-true q p t), both.1)

  pub tied_from : ContainsAt ss p → tied_among k d p ss ≡ true → is_tied k d ss p ≡ true
  tied_from (n, l, f) t = and_from _ _ (list_any-from_Any (λ (q : ℕ). eqb q p) ss (n, p, l, f p, eq-eqb p p refl)) t
