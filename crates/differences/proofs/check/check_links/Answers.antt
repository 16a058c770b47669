use Rattle.std.proofs.Common.{rules}
use Rattle.differences.specs.Links.{links_refusal}
use Rattle.differences.proofs.Judging.{links_judged}
use Rattle.differences.proofs.check.check_links.Goals as goal

pub returns-in_err-check_columns : goal.returns-in_err-check_columns
unfolding links_refusal
returns-in_err-check_columns c = record { value = search rules; law = links_judged _ _ }

pub returns-in-Some : goal.returns-in-Some
unfolding links_refusal
returns-in-Some c = record { value = search rules; law = links_judged _ _ }

pub returns-then-links-gt-MOST_LINKS : goal.returns-then-links-gt-MOST_LINKS
unfolding links_refusal
returns-then-links-gt-MOST_LINKS c = record { value = search rules; law = links_judged _ _ }

pub returns-in-Some-first_of_one_column : goal.returns-in-Some-first_of_one_column
unfolding links_refusal
returns-in-Some-first_of_one_column c = record { value = search rules; law = links_judged _ _ }

pub returns-in-Some-first_unbounded : goal.returns-in-Some-first_unbounded
unfolding links_refusal
returns-in-Some-first_unbounded c = record { value = search rules; law = links_judged _ _ }

pub returns : goal.returns
unfolding links_refusal
returns c = record { value = search rules; law = links_judged _ _ }
