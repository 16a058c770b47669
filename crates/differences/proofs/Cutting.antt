-- Windows cut to what distances leave of them: every allowed plan stays, and every value left has one.
use Rattle.std.proofs.Common.{◌≡◌, ℕ, ◌+◌, ◌<◌, true, List, length, set, ℤ, pos, ◌≤ℤ◌, ◌<ℤ◌, Ok, sym, refl, ◌∙◌, subst, arith, get_or-set_other, get_or-set_same}
use native.Mathlib.Decide.{ℕ_discrete}
use Rattle.std.proofs.lemmas.List.{take_all}
use Rattle.std.proofs.lemmas.Int.{ints}
use Rattle.rules.specs.declared.window.Window.{Window}
use Rattle.rules.specs.Plans.{window_at, value_at, all_lawful, lies, inside, Single, firsts, Keeps, NoPlan, Trimmed, Filled}
use Rattle.rules.specs.Refusals.{answer, window_refusal}
use Rattle.rules.specs.Meaning.{Opened, Voided}
use Rattle.rules.proofs.Windows.{Ends, Within, lawful_at, lawful_ends, lawful_from, inside_from, lies_from, lies_at, lies-length, lies-inside, plan_of, plan_at, plan_lies, single_plan}
use Rattle.rules.proofs.Failing.{takes, taken, answer_ok}
use Rattle.differences.specs.Tables.{Obeys, Closed, obeys, distance_meaning}
use Rattle.differences.specs.Ends.{first_at, last_at, first_left, last_left, Cut, AllCut}
use Rattle.differences.proofs.Raising.{Under, raised, raised_obeys, raised_over, raised_under, raised_at}
use Rattle.differences.proofs.Leaving.{first_base, last_base, first_sound, last_sound, first_obeys, last_obeys}
use Rattle.differences.proofs.Obeying.{obeys_each, each_obeys}

-- a plan that obeys the distances and lies in the windows, column by column
module _ (k : ℕ) (d : ℕ → ℕ → ℤ) (vs : List Window) (long : length vs ≡ k) (x : List ℤ) (allowed : obeys k d x ≡ true) (there : lies x vs ≡ true) where
  pub plan_over : (i : ℕ) → i < k → first_left d (first_at vs) i k ≤ℤ value_at x i
  plan_over i h = (first_sound k d (first_at vs) (value_at x) (obeys_each k d x allowed) (record { under = λ j l. (lies_at x vs j there (omega arith)).low })).under i h

  pub plan_under : (i : ℕ) → i < k → value_at x i ≤ℤ last_left d (last_at vs) i k
  plan_under i h = (last_sound k d (last_at vs) (value_at x) (obeys_each k d x allowed) (record { under = λ j l. (lies_at x vs j there (omega arith)).high })).under i h

-- where nothing is left of a window, there is no plan
pub cut_empty : (k : ℕ) (d : ℕ → ℕ → ℤ) (vs : List Window) (i : ℕ) (w : Window) → length vs ≡ k → i < k → Cut k d vs i w → w.last <ℤ w.first → NoPlan (obeys k d) vs
cut_empty k d vs i w long h cut empty x allowed there =
    omega (arith, ints, cut.first, cut.last, plan_over k d vs long x allowed there i h, plan_under k d vs long x allowed there i h)

abbrev no_window : Window
no_window = record { first = pos 0; last = pos 0 }

abbrev Met : Window → Type 0
Met w = w.first ≤ℤ w.last

-- windows that are the same so far are cut as far
pub cut_same : (k : ℕ) (d : ℕ → ℕ → ℤ) (vs us ws : List Window) (n : ℕ) → ((i : ℕ) → i < n → window_at ws i ≡ window_at us i) → AllCut k d vs us n → AllCut k d vs ws n
cut_same k d vs us ws n same all = record { cut = λ i h. rw (same i h) (all.cut i h); met = λ i h. subst Met (sym (same i h)) (all.met i h) }

-- the loop over the columns
pub cut_more : (k : ℕ) (d : ℕ → ℕ → ℤ) (vs ws : List Window) (i : ℕ) (w : Window) → i < length ws → Cut k d vs i w → w.first ≤ℤ w.last → AllCut k d vs ws i → AllCut k d vs (set ws i w) (i + 1)
cut_more k d vs ws i w lt cut met all =
    record {
      cut = λ q h. elim (ℕ_discrete q i) [ yes e ↦ rw (e, get_or-set_same) cut | no e ↦ rw get_or-set_other (all.cut q (omega arith)) ];
      met = λ q h.
          elim (ℕ_discrete q i) [
            | yes e ↦ rw e (subst Met (sym (get_or-set_same ws i w no_window lt)) met)
            | no e ↦ subst Met (sym (get_or-set_other ws i q w no_window e)) (all.met q (omega arith))
          ];
    }

module _ (k : ℕ) (d : ℕ → ℕ → ℤ) where
  -- values that obey the distances, as a plan
  pub plan_obeys : (f : ℕ → ℤ) → Obeys k d f → obeys k d (plan_of k f) ≡ true
  plan_obeys f o = each_obeys k d (plan_of k f) (record { link = λ i j hi hj. omega (arith, ints, o.link i j hi hj, plan_at k f i hi, plan_at k f j hj) })

-- ws is what closed distances leave of the lawful windows vs
module _ (k : ℕ) (d : ℕ → ℕ → ℤ) (cl : Closed k d) (vs ws : List Window) (law : all_lawful vs ≡ true) (long : length vs ≡ k) (even : length ws ≡ k) (all : AllCut k d vs ws k) where
  within : (i : ℕ) → i < k → Within (window_at ws i) (window_at vs i)
  within i h =
      record {
        low = omega (arith, ints, (all.cut i h).first, first_base d (first_at vs) i k);
        high = omega (arith, ints, (all.cut i h).last, last_base d (last_at vs) i k);
      }

  ends : (i : ℕ) → i < k → Ends (window_at ws i)
  ends i h =
      let was = lawful_ends (window_at vs i) (lawful_at vs i law (omega arith)) in
      let now = within i h in
      record { low = omega (arith, ints, was.low, now.low); high = omega (arith, ints, was.high, now.high); order = all.met i h }

  shrinks : inside ws vs ≡ true
  shrinks = inside_from ws vs (even ∙ sym long) (λ i h. within i (omega arith))

  keeps : Keeps (obeys k d) vs ws
  keeps x allowed there =
      lies_from x ws (lies-length x vs there ∙ (long ∙ sym even)) λ i h.
      record {
        low = omega (arith, ints, (all.cut i (omega arith)).first, plan_over k d vs long x allowed there i (omega arith));
        high = omega (arith, ints, (all.cut i (omega arith)).last, plan_under k d vs long x allowed there i (omega arith));
      }

  firsts_obey : Obeys k d (first_at ws)
  firsts_obey = record { link = λ i j hi hj. omega (arith, ints, (first_obeys k d (first_at vs) cl).link i j hi hj, (all.cut i hi).first, (all.cut j hj).first) }

  lasts_obey : Obeys k d (last_at ws)
  lasts_obey = record { link = λ i j hi hj. omega (arith, ints, (last_obeys k d (last_at vs) cl).link i j hi hj, (all.cut i hi).last, (all.cut j hj).last) }

  filled : Filled (obeys k d) ws
  filled =
      record {
        each = λ i v h low high.
            let hi : i < k = omega arith in
            let under : Under k (first_at ws) (last_at ws) = record { under = λ j l. all.met j l } in
            let above = raised_over k d cl (first_at ws) i v in
            let below = raised_under k d cl (first_at ws) (last_at ws) i v hi under lasts_obey high in
            record {
              plan = plan_of k (raised d (first_at ws) i v);
              allowed = plan_obeys k d (raised d (first_at ws) i v) (raised_obeys k d cl (first_at ws) i v hi firsts_obey);
              there = plan_lies k (raised d (first_at ws) i v) ws even (λ j l. record { low = above.under j l; high = below.under j l });
              at = plan_at k (raised d (first_at ws) i v) i hi ∙ raised_at k d cl (first_at ws) i v hi low;
            };
      }

  trimmed : Trimmed (obeys k d) ws
  trimmed =
      record {
        first_end = λ i h. filled.each i (first_at ws i) h (omega (arith, ints)) (all.met i (omega arith));
        last_end = λ i h. filled.each i (last_at ws i) h (all.met i (omega arith)) (omega (arith, ints));
      }

  decides : Single vs → obeys k d (firsts vs) ≡ true
  decides single =
      let held = plan_lies k (first_at ws) ws even (λ j l. record { low = omega (arith, ints); high = all.met j l }) in
      let e = single_plan (plan_of k (first_at ws)) vs single (lies-inside (plan_of k (first_at ws)) ws vs held shrinks) in
      rw (← e) (plan_obeys k d (first_at ws) firsts_obey)

  pub cut_opens : Opened (distance_meaning k d) vs ws
  cut_opens =
      record {
        accepted = takes k vs law long;
        lawful_after = lawful_from ws (λ i h. ends i (omega arith));
        shrinks = shrinks;
        keeps = keeps;
        decides = decides;
        ends = λ _. trimmed;
        values = λ _. filled;
        settles = (subst (λ (us : List Window). Trimmed (obeys k d) us) (sym (take_all k ws (omega arith))) trimmed, tt);
      }

-- the windows were taken
pub trim_taken : (k n : ℕ) (vs : List Window) → n ≡ k → Ok tt ≡ answer (window_refusal n vs) → (all_lawful vs ≡ true) × (length vs ≡ k)
trim_taken k n vs e h = rw e at (taken n vs (answer_ok (window_refusal n vs) (sym h)))

pub trim_voids : (k : ℕ) (d : ℕ → ℕ → ℤ) (vs : List Window) → all_lawful vs ≡ true → length vs ≡ k → NoPlan (obeys (length vs) d) vs → Voided (distance_meaning k d) vs vs
trim_voids k d vs law long none = record { accepted = takes k vs law long; stays = refl; none = rw long at none }

pub trim_opens : (k : ℕ) (d : ℕ → ℕ → ℤ) (vs ws : List Window) → Closed k d → all_lawful vs ≡ true → length vs ≡ k → length ws ≡ length vs
    → AllCut (length vs) d vs ws (length vs) → Opened (distance_meaning k d) vs ws
trim_opens k d vs ws cl law long even all = cut_opens k d cl vs ws law long (even ∙ long) (rw long at all)
