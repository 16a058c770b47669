-- What a rule means, and what narrow owes for it.
use Rattle.std.specs.Prelude.{◌≡◌, ℕ, Bool, true, List, [], ◌∷◌, take, ℤ, Some, None, Ok, Err, Option, Result}
use Rattle.rules.specs.declared.window.Window.{Window}
use Rattle.rules.specs.declared.verdict.Verdict.{Verdict}
use Rattle.rules.specs.declared.verdict.Verdict.TheVariants.{Open, Void}
use Rattle.rules.specs.declared.fault.Fault.{Fault}
use Rattle.rules.specs.Plans.{all_lawful, inside, Single, firsts, Keeps, NoPlan, Trimmed, Filled}
use Rattle.rules.specs.Refusals.{window_refusal}

-- a number of columns, and a set of allowed plans over them
pub record Scope : Type 0 where
  pub width : ℕ
  pub allows : List ℤ → Bool

-- what a rule means. `tight` and `full` are what it claims of its trims. `joined` lists the tight rules that it asks until none
-- would strike anything more: a tight rule lists itself, and one that claims nothing may list nothing
pub record Meaning : Type 0 where
  pub scope : Scope
  pub tight : Bool
  pub full : Bool
  pub joined : List Scope

-- the meaning of a rule that claims to be tight, and perhaps full
abbrev pub tight_rule : Scope → Bool → Meaning
tight_rule s filled = record { scope = s; tight = true; full = filled; joined = s ∷ [] }

-- a fresh rule: one column, and every plan is allowed
abbrev pub fresh_scope : Scope
fresh_scope = record { width = 1; allows = λ _. true }

abbrev pub fresh_rule : Meaning
fresh_rule = tight_rule fresh_scope true

-- the meaning of a setting that is accepted, and else that of a fresh rule
abbrev pub meaning_if : Option Fault → Meaning → Meaning
meaning_if None m = m
meaning_if (Some f) m = fresh_rule

-- none of these rules would strike anything from ws, or say void; a rule with fewer columns binds the leading ones
abbrev pub Settled : List Scope → List Window → Type 0
Settled [] ws = Unit {0}
Settled (s ∷ ss) ws = Trimmed s.allows (take s.width ws) × Settled ss ws

-- the windows vs were taken and cut down to ws
pub record Opened (m : Meaning) (vs ws : List Window) : Type 0 where
  pub accepted : window_refusal m.scope.width vs ≡ None
  pub lawful_after : all_lawful ws ≡ true
  pub shrinks : inside ws vs ≡ true
  pub keeps : Keeps m.scope.allows vs ws
  pub decides : Single vs → m.scope.allows (firsts vs) ≡ true
  pub ends : m.tight ≡ true → Trimmed m.scope.allows ws
  pub values : m.full ≡ true → Filled m.scope.allows ws
  pub settles : Settled m.joined ws

-- the windows vs were taken, and no allowed plan lies in them
pub record Voided (m : Meaning) (vs ws : List Window) : Type 0 where
  pub accepted : window_refusal m.scope.width vs ≡ None
  pub stays : ws ≡ vs
  pub none : NoPlan m.scope.allows vs

-- the windows vs were refused
pub record Refused (m : Meaning) (vs ws : List Window) (f : Fault) : Type 0 where
  pub because : window_refusal m.scope.width vs ≡ Some f
  pub stays : ws ≡ vs

-- the outcome of narrow for the meaning m, from the windows vs to the windows ws
abbrev pub Narrowed : Meaning → List Window → Result Verdict Fault → List Window → Type 0
Narrowed m vs (Ok Open) ws = Opened m vs ws
Narrowed m vs (Ok Void) ws = Voided m vs ws
Narrowed m vs (Err f) ws = Refused m vs ws f
