use Rattle.std.proofs.Common.{arith, rules}
use Rattle.std.proofs.lemmas.Int.{ints}
use Rattle.std.proofs.lemmas.Bool.Decides.{nat_tests}
use Rattle.differences.specs.Apart.{apart_refusal}
use Rattle.differences.proofs.apart.Apart.check.Goals as goal

pub returns-in_err-check_columns : goal.returns-in_err-check_columns
unfolding apart_refusal
returns-in_err-check_columns c = search rules

pub returns-then-self : goal.returns-then-self
unfolding apart_refusal
returns-then-self c = grind (arith, nat_tests)

pub returns-then-self-3 : goal.returns-then-self-3
unfolding apart_refusal
returns-then-self-3 c = grind (arith, nat_tests)

pub returns-then-not-contains : goal.returns-then-not-contains
unfolding apart_refusal
returns-then-not-contains c = grind (arith, ints, nat_tests)

pub returns : goal.returns
unfolding apart_refusal
returns c = grind (arith, ints, nat_tests)
