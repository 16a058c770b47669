-- A list of rules of one kind that bind one board together.
use Rattle.std.specs.Prelude.{ℕ, None, Option, nat_le}
use Rattle.rules.specs.declared.fault.Fault.{Fault}
use Rattle.rules.specs.declared.fault.Fault.TheVariants.{ListLength}
use Rattle.rules.specs.Refusals.{unless}

-- the fault of a list of n rules: there are 64 at most
abbrev pub each_refusal : ℕ → Option Fault
each_refusal n = unless (nat_le n 64) ListLength None
