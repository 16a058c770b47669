-- A rule of links narrows by its table.
use Rattle.std.proofs.Common.{◌≡◌, ℕ, ◌<◌, true, List, length, ℤ, Some, None, Ok, Option, Result, sym, refl, ap, ◌∙◌, subst, arith}
use Rattle.std.proofs.lemmas.List.{length-replicate}
use Rattle.std.proofs.lemmas.Int.{ints}
use Rattle.std.proofs.lemmas.Bool.{both_ways}
use Rattle.rules.specs.declared.window.Window.{Window}
use Rattle.rules.specs.declared.fault.Fault.{Fault}
use Rattle.rules.specs.declared.verdict.Verdict.{Verdict}
use Rattle.rules.specs.Plans.{everything, lies, window_at}
use Rattle.rules.specs.ShortLists.{listed}
use Rattle.rules.specs.Refusals.{answer, window_refusal}
use Rattle.rules.specs.Meaning.{Narrowed, Voided, tight_rule}
use Rattle.rules.proofs.Windows.{lies_from, lies_at, lies-length, lawful_at, lawful_ends}
use Rattle.rules.proofs.Failing.{taken, answer_ok}
use Rattle.differences.specs.declared.distances.Distances.{Distances}
use Rattle.differences.specs.declared.links.Links.{Links}
use Rattle.differences.specs.Tables.{obeys, distance_meaning}
use Rattle.differences.specs.Links.{all_linked}
use Rattle.differences.specs.Distances.{distance_of, all_values, allowed_by, width_of}
use Rattle.differences.specs.Rules.{meaning_of}
use Rattle.differences.proofs.Linking.{any_window}
use Rattle.differences.proofs.Alike.{narrowed_alike}

-- a plan in lawful windows is a plan of values
pub lawful-values : (k : ℕ) (x : List ℤ) (vs : List Window) → window_refusal k vs ≡ None → lies x vs ≡ true → lies x (all_values k) ≡ true
lawful-values k x vs accepted there =
    let (law, long) = taken k vs accepted in
    let even = length-replicate k everything in
    lies_from x (all_values k) (lies-length x vs there ∙ (long ∙ sym even)) λ i h.
    let here : i < length vs = omega arith in
    let held = lies_at x vs i there here in
    let ends = lawful_ends (window_at vs i) (lawful_at vs i law here) in
    rw (any_window k i (omega arith)) (record { low = omega (arith, ints, held.low, ends.low); high = omega (arith, ints, held.high, ends.high) })

module _ (r : Links) (vs : List Window) where
  -- without a table no plan keeps the links
  pub links_void : r.distances ≡ None → Ok tt ≡ answer (window_refusal r.columns vs) → Voided (meaning_of r) vs vs
  links_void e h =
      let accepted = answer_ok (window_refusal r.columns vs) (sym h) in
      record {
        accepted = accepted;
        stays = refl;
        none = λ x keeps there.
            both_ways (all_linked (listed r.links) x)
            (r.same x (lawful-values r.columns x vs accepted there) ∙ ap (λ (o : Option Distances). allowed_by o x) e) keeps;
      }

  -- with one, what it leaves is what the links leave
  pub links_narrowed : (t : Distances) → r.distances ≡ Some t → (v : Result Verdict Fault) (ws : List Window) → Narrowed (distance_meaning t.columns (distance_of t)) vs v ws → Narrowed (meaning_of r) vs v ws
  links_narrowed t e v ws h =
      let width : t.columns ≡ r.columns = ap (λ (o : Option Distances). width_of r.columns o) (sym e) ∙ r.wide in
      narrowed_alike r.columns (all_linked (listed r.links)) (obeys t.columns (distance_of t)) vs
      (λ accepted x there. r.same x (lawful-values r.columns x vs accepted there) ∙ ap (λ (o : Option Distances). allowed_by o x) e)
      true v ws (subst (λ (n : ℕ). Narrowed (tight_rule (record { width = n; allows = obeys t.columns (distance_of t) }) true) vs v ws) width h)
