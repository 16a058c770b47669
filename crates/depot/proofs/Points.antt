-- The four points that a rule owes, for the hours of a column.
use Rattle.std.proofs.Common.{◌≡◌, ℕ, ◌<◌, true, false, List, length, set, Some, None, Ok, Option, sym, refl, ap, ◌∙◌, arith}
use Rattle.std.proofs.lemmas.Int.{ints}
use Rattle.std.proofs.lemmas.Bool.{both_ways, ltb-true}
use Rattle.rules.specs.declared.window.Window.{Window}
use Rattle.rules.specs.declared.verdict.Verdict.{Verdict}
use Rattle.rules.specs.declared.verdict.Verdict.TheVariants.{Open}
use Rattle.rules.specs.Plans.{all_lawful, window_at, value_at}
use Rattle.rules.specs.Refusals.{window_refusal}
use Rattle.rules.specs.Meaning.{Opened, Voided, Narrowed}
use Rattle.rules.proofs.Windows.{lawful_at, lawful_ends, ends_lawful, lawful-set, inside_same, inside-set, lies_at, lies-set, firsts_at}
use Rattle.rules.proofs.Failing.{takes, taken}
use Rattle.rules.proofs.Trimming.{narrowed_at}
use Rattle.depot.specs.declared.hours.Hours.{Hours}
use Rattle.depot.specs.Quarters.{starts, Quarters, QuartersLeft}
use Rattle.depot.specs.Hours.{column_there, quarter_meaning}

-- a claim that the rule does not make asks nothing
no_claim : {X : Type 0} → false ≡ true → X
no_claim e = absurd (both_ways false refl e)

-- the column of h has the window v among the lawful windows vs
module _ (h : Hours) (vs : List Window) (ok : all_lawful vs ≡ true) (there : h.column < length vs) where
  abbrev v : Window
  v = window_at vs h.column

  -- the first point: lawful windows in the right number are taken
  accepted : window_refusal (length vs) vs ≡ None
  accepted = takes (length vs) vs ok refl

  -- the second: no plan that lies in vs is allowed, since its value in the column lies in v
  pub void_points : QuartersLeft h.opens h.closes v None → Voided (quarter_meaning (length vs) (Some h)) vs vs
  void_points none =
      record {
        accepted = accepted;
        stays = refl;
        none = λ x allowed l. let held = lies_at x vs h.column l there in none (value_at x h.column) held.low held.high allowed;
      }

  -- the third: w is lawful, lies inside v, and holds what an allowed plan has in the column.
  -- the fourth: where v holds one value, w begins with it, and w begins with a start
  pub open_points : (w : Window) → Quarters h.opens h.closes v w → Opened (quarter_meaning (length vs) (Some h)) vs (set vs h.column w)
  open_points w q =
      let given = lawful_ends v (lawful_at vs h.column ok there) in
      record {
        accepted = accepted;
        lawful_after = lawful-set vs h.column w ok (ends_lawful w (record { low = omega (arith, ints, given.low, q.low); high = omega (arith, ints, given.high, q.high); order = q.order }));
        shrinks = inside-set vs h.column w (record { low = q.low; high = q.high });
        keeps = λ x allowed l.
            let held = lies_at x vs h.column l there in
            let kept = q.keeps (value_at x h.column) held.low held.high allowed in
            lies-set x vs h.column w l (record { low = kept.0; high = kept.1 });
        decides = λ one.
            let single : v.first ≡ v.last = one h.column there in
            let same : v.first ≡ w.first = omega (arith, ints, q.low, q.order, q.high) in
            ap (starts h.opens h.closes) (firsts_at vs h.column ∙ same) ∙ q.begins;
        ends = no_claim;
        values = no_claim;
        settles = tt;
      }

-- without hours every plan is allowed, and the windows stay
pub free_points : (k : ℕ) (hours : Option Hours) (vs : List Window) → hours ≡ None → window_refusal k vs ≡ None → Opened (quarter_meaning k hours) vs vs
free_points k hours vs none ok =
    narrowed_at (quarter_meaning k hours) (quarter_meaning k None) vs vs (Ok Open) (ap (quarter_meaning k) (sym none))
    (record { accepted = ok; lawful_after = (taken k vs ok).0; shrinks = inside_same vs; keeps = λ x allowed l. l; decides = λ one. refl; ends = no_claim; values = no_claim; settles = tt })

-- the hours that a row holds are those of a column that is there
pub column_held : (k : ℕ) (hours : Option Hours) (h : Hours) → hours ≡ Some h → column_there k hours ≡ true → h.column < k
column_held k hours h some there = ltb-true _ _ (ap (column_there k) (sym some) ∙ there)

-- the same as the code has it: the rule holds the hours h, for as many columns as there are windows
pub bound_points : (k : ℕ) (hours : Option Hours) (h : Hours) (vs ws : List Window) (r : Verdict) → hours ≡ Some h → length vs ≡ k → Narrowed (quarter_meaning (length vs) (Some h)) vs (Ok r) ws → Narrowed (quarter_meaning k hours) vs (Ok r) ws
bound_points k hours h vs ws r some wide n = narrowed_at (quarter_meaning k hours) (quarter_meaning (length vs) (Some h)) vs ws (Ok r) (λ i. quarter_meaning (wide i) (sym some i)) n
