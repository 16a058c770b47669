use Rattle.std.proofs.Common.{sym, refl, ◌∙◌, rules}
use Rattle.std.proofs.lemmas.Result.{err_from_is_err_and}
use Rattle.rules.proofs.Failing.{answer_err}
use Rattle.totals.proofs.LinkedJudging.{linked_judged}
use Rattle.totals.proofs.LinkedRows.{links_not_refused, sum_not_refused, sound_set, sound_row, linked_held, handed_on, ok_if_none}
use Rattle.totals.proofs.linked.LinkedSum.set.Goals as goal

pub returns-in_err-check_linked : goal.returns-in_err-check_linked
returns-in_err-check_linked c =
    let p = err_from_is_err_and c.from_residual.result c.from_residual.ensures.1 in
    record {
      value = handed_on _ _ c.args.summands.now c.args.links.now _ _ _ p.1 p.2 c.in_err-check_linked.ensures.value;
      law = linked_judged _ _ _ _;
      after = search rules;
    }

pub returns-in_err-set : goal.returns-in_err-set
returns-in_err-set c =
    absurd
    (links_not_refused c.args.columns c.args.total c.args.summands.now c.args.links.now _ c.in_ok-check_linked.ensures.value
    (answer_err _ _ (sym c.in_err-set.ensures.value)))

pub returns-in_err-set-2 : goal.returns-in_err-set-2
returns-in_err-set-2 c =
    absurd
    (sum_not_refused c.args.columns c.args.total c.args.summands.now c.args.links.now _ c.in_ok-check_linked.ensures.value
    (answer_err _ _ (sym c.in_err-set-2.ensures.value)))

pub invariant_of-self : goal.invariant_of-self
invariant_of-self c =
    let k = c.args.columns in
    let t = c.args.total in
    let ss = c.args.summands.now in
    let ls = c.args.links.now in
    let kept = c.in_ok-set.ensures.kept refl in
    let held = c.in_ok-set-2.ensures.after in
    let s = sound_row k t ss ls c.set-2.new.self _ held kept.1 (sound_set k t ss ls c.in_ok-check_linked.ensures.value) in
    record { entries = λ _. ok_if_none _ s.entries; rings = λ _. s.rings; untied = λ _. s.untied; wide = λ _. kept.0 ∙ sym held.columns }

pub returns : goal.returns
returns c =
    record {
      value = c.in_ok-check_linked.ensures.value;
      law = linked_judged _ _ _ _;
      after = linked_held _ _ _ _ c.set-2.new.self _ c.in_ok-set-2.ensures.after (c.in_ok-set.ensures.kept refl).1;
    }
