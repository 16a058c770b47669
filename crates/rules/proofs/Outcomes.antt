-- The outcome of narrow for a tight rule, from what it leaves.
use Rattle.std.proofs.Common.{◌≡◌, ◌≤◌, Bool, true, false, List, length, set, None, Ok, sym, refl, ap, ◌∙◌, arith}
use Rattle.std.proofs.lemmas.List.{take_all, get_or-set_same}
use Rattle.std.proofs.lemmas.Bool.{both_ways}
use Rattle.std.proofs.lemmas.Int.{ints}
use Rattle.rules.specs.declared.window.Window.{Window}
use Rattle.rules.specs.declared.verdict.Verdict.{Verdict}
use Rattle.rules.specs.declared.verdict.Verdict.TheVariants.{Open, Void}
use Rattle.rules.specs.Plans.{all_lawful, window_at, Single, firsts, Trimmed, Filled}
use Rattle.rules.specs.Refusals.{window_refusal}
use Rattle.rules.specs.Enumeration.{Left, Leaves}
use Rattle.rules.specs.Trims.{verdict_left}
use Rattle.rules.specs.Meaning.{Scope, tight_rule, fresh_scope, Opened, Narrowed}
use Rattle.rules.proofs.Windows.{lawful_at, lawful_ends, lawful_from, lies_at, inside_at, inside-length, inside_same, lies-inside, firsts_lie, length-firsts, single_plan, lies_put}
use Rattle.rules.proofs.Failing.{taken}

module _ (s : Scope) (vs ws : List Window) (some : 1 ≤ s.width) (ok : window_refusal s.width vs ≡ None) where
  -- what a tight rule leaves is lawful, and decides single windows
  module _ (l : Left s.allows vs ws) where
    width_left : length ws ≡ s.width
    width_left = inside-length ws vs l.within ∙ (taken s.width vs ok).1

    lawful_left : all_lawful ws ≡ true
    lawful_left =
        lawful_from ws λ i h.
        let e = l.ends.first_end i h in
        let p = lies_at e.plan ws i e.there h in
        let w = inside_at ws vs i l.within h in
        let v = lawful_ends (window_at vs i) (lawful_at vs i (taken s.width vs ok).0 (omega (arith, inside-length ws vs l.within))) in
        record { low = omega (arith, ints); high = omega (arith, ints); order = omega (arith, ints) }

    decided : Single vs → s.allows (firsts vs) ≡ true
    decided one =
        let e = l.ends.first_end 0 (omega (arith, width_left)) in
        ap s.allows (sym (single_plan e.plan vs one (lies-inside e.plan ws vs e.there l.within))) ∙ e.allowed

    pub opened : (full : Bool) → (full ≡ true → Filled s.allows ws) → Opened (tight_rule s full) vs ws
    opened full filled =
        record {
          accepted = ok;
          lawful_after = lawful_left;
          shrinks = l.within;
          keeps = l.keeps;
          decides = decided;
          ends = λ e. l.ends;
          values = filled;
          settles = (rw (take_all s.width ws (omega (arith, width_left))) l.ends, tt);
        }

  -- a rule that is tight, and claims no more
  pub tight_outcome : (v : Verdict) → Leaves s.allows vs (verdict_left v ws) → (v ≡ Void → ws ≡ vs) → Narrowed (tight_rule s false) vs (Ok v) ws
  tight_outcome Open l stays = opened l false (λ e. absurd (both_ways _ refl e))
  tight_outcome Void l stays = record { accepted = ok; stays = stays refl; none = l }

-- where every plan is allowed, every value of lawful windows is supported
pub every_value : (ws : List Window) → all_lawful ws ≡ true → Filled (λ _. true) ws
every_value ws h =
    record {
      each = λ i v l low high. record { plan = set (firsts ws) i v; allowed = refl; there = lies_put (firsts ws) ws i v (firsts_lie ws h) (record { low = low; high = high }); at = get_or-set_same (firsts ws) i v _ (simp length-firsts l) };
    }

pub every_end : (ws : List Window) → all_lawful ws ≡ true → Trimmed (λ _. true) ws
every_end ws h =
    record {
      first_end = λ i l. (every_value ws h).each i _ l (omega (arith, ints)) (lawful_ends (window_at ws i) (lawful_at ws i h l)).order;
      last_end = λ i l. (every_value ws h).each i _ l (lawful_ends (window_at ws i) (lawful_at ws i h l)).order (omega (arith, ints));
    }

-- a fresh rule leaves the windows as they are
pub fresh_outcome : (ws : List Window) → window_refusal 1 ws ≡ None → Narrowed (tight_rule fresh_scope true) ws (Ok Open) ws
fresh_outcome ws ok =
    let h = (taken 1 ws ok).0 in
    opened fresh_scope ws ws (omega arith) ok (record { within = inside_same ws; keeps = λ x a l. l; ends = every_end ws h }) true (λ _. every_value ws h)
