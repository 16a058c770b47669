-- Rules asked one after another, turn after turn.
use Rattle.std.proofs.Common.{◌≡◌, ℕ, zero, suc, ◌<◌, ◌≤◌, true, List, [], ◌∷◌, ◌++◌, length, get_or, take, ℤ, None, Ok, sym, refl, ap, ◌∙◌, subst, arith}
use Rattle.std.proofs.lemmas.Bool.{and_parts, and_from, both_ways}
use Rattle.std.proofs.lemmas.List.{append_assoc, append-nil}
use Rattle.rules.specs.declared.window.Window.{Window}
use Rattle.rules.specs.declared.verdict.Verdict.{Verdict}
use Rattle.rules.specs.declared.verdict.Verdict.TheVariants.{Open, Void}
use Rattle.rules.specs.Plans.{all_lawful, inside, Single, firsts, Keeps, NoPlan}
use Rattle.rules.specs.Refusals.{window_refusal}
use Rattle.rules.specs.Meaning.{Scope, Meaning, Settled, Opened, Voided, Narrowed}
use Rattle.rules.proofs.Windows.{inside_same, inside_trans}
use Rattle.layers.specs.Leading.{leading, clipped, on_leading}
use Rattle.layers.specs.Joining.{most_columns, all_allow, all_joined, joint, total_width, Turn, Turned, FixedPoint}
use Rattle.layers.proofs.Widths.{total_le, total_same, single_same}

-- one rule more at the end
module _ (m : Meaning) where
  allow_last : (ms : List Meaning) (x : List ℤ) → all_allow (ms ++ m ∷ []) x ≡ true → (all_allow ms x ≡ true) × (leading m.scope.width m.scope.allows x ≡ true)
  allow_last [] x h = (refl, (and_parts _ _ h).0)
  allow_last (n ∷ ms) x h = let r = allow_last ms x (and_parts _ _ h).1 in (and_from _ _ (and_parts _ _ h).0 r.0, r.1)

  allow_push : (ms : List Meaning) (x : List ℤ) → all_allow ms x ≡ true → leading m.scope.width m.scope.allows x ≡ true → all_allow (ms ++ m ∷ []) x ≡ true
  allow_push [] x h l = and_from _ _ l refl
  allow_push (n ∷ ms) x h l = and_from _ _ (and_parts _ _ h).0 (allow_push ms x (and_parts _ _ h).1 l)

  joined_push : (ms : List Meaning) → all_joined (ms ++ m ∷ []) ≡ all_joined ms ++ clipped m
  joined_push [] = append-nil (clipped m)
  joined_push (n ∷ ms) = ap (λ (ss : List Scope). clipped n ++ ss) (joined_push ms) ∙ sym (append_assoc (clipped n) (all_joined ms) (clipped m))

settled_append : (ss ts : List Scope) (ws : List Window) → Settled ss ws → Settled ts ws → Settled (ss ++ ts) ws
settled_append [] ts ws g h = h
settled_append (s ∷ ss) ts ws g h = (g.0, settled_append ss ts ws g.1 h)

-- before the first rule
pub no_turn : (vs : List Window) → all_lawful vs ≡ true → Turn [] vs vs
no_turn vs ok = record { lawful_after = ok; shrinks = inside_same vs; keeps = λ x a h. h; decides = λ e s. refl; settles = λ e. tt }

module _ (m : Meaning) (k : ℕ) (ms : List Meaning) (vs us ws : List Window) (t : Turn ms vs us) where
  keeps_more : Keeps (leading m.scope.width m.scope.allows) us ws → Keeps (all_allow (ms ++ m ∷ [])) vs ws
  keeps_more h x a l = let r = allow_last m ms x a in h x r.1 (t.keeps x r.0 l)

  -- one rule more
  turn_more : Opened (on_leading k m) us ws → Turn (ms ++ m ∷ []) vs ws
  turn_more o =
      -- where the last windows are the first, those between are too
      let stays : ws ≡ vs → us ≡ vs = λ e. total_same us vs t.shrinks t.lawful_after (omega (arith, total_le ws us o.shrinks o.lawful_after, ap total_width e)) in
      record {
        lawful_after = o.lawful_after;
        shrinks = inside_trans ws us vs o.shrinks t.shrinks;
        keeps = keeps_more o.keeps;
        decides = λ e s. allow_push m ms (firsts vs) (t.decides (stays e) s) (subst (λ (zs : List Window). leading m.scope.width m.scope.allows (firsts zs) ≡ true) (stays e) (o.decides (subst Single (sym (stays e)) s)));
        settles = λ e. subst (λ (ss : List Scope). Settled ss ws) (sym (joined_push m ms)) (settled_append (all_joined ms) (clipped m) ws (subst (Settled (all_joined ms)) (stays e ∙ sym e) (t.settles (stays e))) o.settles);
      }

  -- the rule after it was void
  turn_void : Voided (on_leading k m) us ws → NoPlan (all_allow (ms ++ m ∷ [])) vs
  turn_void o x a l = let r = allow_last m ms x a in o.none x r.1 (t.keeps x r.0 l)

  pub turn_asked : (v : Verdict) → Narrowed (on_leading k m) us (Ok v) ws → Turned (ms ++ m ∷ []) vs v ws
  turn_asked Open o = turn_more o
  turn_asked Void o = turn_void o

-- two rules
pub turn_pair : (a b : Meaning) (j k : ℕ) (vs us ws : List Window) (v : Verdict) → all_lawful vs ≡ true → Opened (on_leading j a) vs us → Narrowed (on_leading k b) us (Ok v) ws → Turned (a ∷ b ∷ []) vs v ws
turn_pair a b j k vs us ws v ok o n = turn_asked b k (a ∷ []) vs us ws (turn_more a j [] vs vs us (no_turn vs ok) o) v n

-- the first i rules leave no plan
allow_take : (i : ℕ) (ms : List Meaning) (x : List ℤ) → all_allow ms x ≡ true → all_allow (take i ms) x ≡ true
allow_take zero ms x h = refl
allow_take (suc i) [] x h = refl
allow_take (suc i) (m ∷ ms) x h = and_from _ _ (and_parts _ _ h).0 (allow_take i ms x (and_parts _ _ h).1)

pub void_early : (i : ℕ) (ms : List Meaning) (vs : List Window) → NoPlan (all_allow (take i ms)) vs → NoPlan (all_allow ms) vs
void_early i ms vs n x a l = n x (allow_take i ms x a) l

-- no rule has more columns than the largest
pub columns_le : (ms : List Meaning) (i : ℕ) (d : Meaning) → i < length ms → (get_or ms i d).scope.width ≤ most_columns ms
columns_le [] i d l = absurd (omega arith)
columns_le (m ∷ ms) zero d l = omega arith
columns_le (m ∷ ms) (suc i) d l = let r = columns_le ms i d (omega arith) in omega arith

-- turns from the windows vs have come to us
pub record Under (ms : List Meaning) (vs us : List Window) : Type 0 where
  pub lawful_now : all_lawful us ≡ true
  pub within : inside us vs ≡ true
  pub keeps : Keeps (all_allow ms) vs us

pub under_none : (ms : List Meaning) (vs : List Window) → all_lawful vs ≡ true → Under ms vs vs
under_none ms vs ok = record { lawful_now = ok; within = inside_same vs; keeps = λ x a h. h }

module _ (ms : List Meaning) (vs us ws : List Window) (u : Under ms vs us) where
  pub under_void : NoPlan (all_allow ms) us → NoPlan (all_allow ms) vs
  under_void n x a l = n x a (u.keeps x a l)

  module _ (t : Turn ms us ws) where
    pub under_more : Under ms vs ws
    under_more = record { lawful_now = t.lawful_after; within = inside_trans ws us vs t.shrinks u.within; keeps = λ x a l. t.keeps x a (u.keeps x a l) }

    -- a turn that changed something made the windows narrower
    pub turn_less : (total_width ws ≡ total_width us → ⊥) → total_width ws < total_width us
    turn_less ne = let le = total_le ws us t.shrinks t.lawful_after in omega arith

    -- a turn that changed nothing is the last
    pub turn_last : window_refusal (most_columns ms) vs ≡ None → total_width ws ≡ total_width us → Opened (joint ms) vs ws
    turn_last taken e =
        let same : ws ≡ us = total_same ws us t.shrinks t.lawful_after (omega arith) in
        record {
          accepted = taken;
          lawful_after = t.lawful_after;
          shrinks = under_more.within;
          keeps = under_more.keeps;
          decides = λ s.
              let first : us ≡ vs = single_same us vs u.within u.lawful_now s in
              subst (λ (zs : List Window). all_allow ms (firsts zs) ≡ true) first (t.decides same (subst Single (sym first) s));
          ends = λ z. absurd (both_ways _ refl z);
          values = λ z. absurd (both_ways _ refl z);
          settles = t.settles same;
        }

-- the turn of rules that mean the same
pub turned_at : (ms ns : List Meaning) (vs ws : List Window) (v : Verdict) → ns ≡ ms → Turned ns vs v ws → Turned ms vs v ws
turned_at ms ns vs ws v e t = subst (λ (os : List Meaning). Turned os vs v ws) e t

-- the rules were asked on a copy us of the windows vs: what is left of it is written back, or nothing
module _ (ms : List Meaning) (vs us : List Window) (copied : us ≡ vs) where
  pub written_back : (ws zs : List Window) → zs ≡ ws → FixedPoint ms us Open ws → Opened (joint ms) vs zs
  written_back ws zs e o = subst (λ (ys : List Window). Opened (joint ms) ys zs) copied (subst (Opened (joint ms) us) (sym e) o)

  pub left_alone : (ws : List Window) → window_refusal (most_columns ms) vs ≡ None → FixedPoint ms us Void ws → Voided (joint ms) vs vs
  left_alone ws ok n = record { accepted = ok; stays = refl; none = subst (NoPlan (all_allow ms)) copied n }
