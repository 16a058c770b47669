use Rattle.std.proofs.Common.{Some, None, sym, ap, ◌∙◌, rules}
use Rattle.totals.specs.Linked.{other_columns}
use Rattle.totals.proofs.Judging.{again_within}
use Rattle.totals.proofs.LinkedJudging.{first_within, summand_again, link_again}
use Rattle.totals.proofs.linked.check.Entries.first_repeated.Goals as goal

pub overflow_add-result : goal.overflow_add-result
overflow_add-result c = let low = again_within c.args.self.now.total c.args.self.now.summands.now c.in-Some.at (sym c.in-Some.ensures) in search rules

pub returns-in-Some : goal.returns-in-Some
returns-in-Some c = sym (summand_again 0 _ c.args.self.now.summands.now c.args.self.now.links.now c.in-Some.at (sym c.in-Some.ensures))

pub returns-in_err-at : goal.returns-in_err-at
returns-in_err-at c =
    c.from_residual.ensures
    ∙ sym (link_again 0 _ c.args.self.now.summands.now c.args.self.now.links.now (search rules) None (sym c.first_repeating.ensures ∙ c.in_err-at.was))

pub link_entry-requires : goal.link_entry-requires
link_entry-requires c = first_within (other_columns c.args.self.now.total) c.args.self.now.links.now c.in_ok-at.at (sym c.first_repeating.ensures ∙ c.in_ok-at.was)

pub returns : goal.returns
returns c =
    ap Some c.link_entry.ensures
    ∙ sym (link_again 0 _ c.args.self.now.summands.now c.args.self.now.links.now (search rules) (Some c.in_ok-at.at) (sym c.first_repeating.ensures ∙ c.in_ok-at.was))
