use Rattle.std.proofs.Common.{rules}
use Rattle.rules.specs.Refusals.{window_refusal}
use Rattle.rules.proofs.Failing.{judged}
use Rattle.rules.proofs.check.check_windows.Goals as goal

pub returns-in-Some : goal.returns-in-Some
unfolding window_refusal
returns-in-Some c = record { value = search rules; law = judged _ _ }

pub returns-then-windows-columns : goal.returns-then-windows-columns
unfolding window_refusal
returns-then-windows-columns c = record { value = search rules; law = judged _ _ }

pub returns : goal.returns
unfolding window_refusal
returns c = record { value = search rules; law = judged _ _ }
