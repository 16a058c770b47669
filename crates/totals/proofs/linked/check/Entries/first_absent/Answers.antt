use Rattle.std.proofs.Common.{Some, None, sym, ap, ◌∙◌, rules}
use Rattle.differences.specs.Links.{present}
use Rattle.totals.specs.Sums.{there}
use Rattle.totals.proofs.LinkedJudging.{first_within, total_absent, summand_absent, link_absent_at}
use Rattle.totals.proofs.linked.check.Entries.first_absent.Goals as goal

pub returns-then-self-columns : goal.returns-then-self-columns
returns-then-self-columns c = sym (total_absent _ _ c.args.self.now.summands.now c.args.self.now.links.now c.if-self-columns.true)

pub overflow_add-result : goal.overflow_add-result
overflow_add-result c = let low = first_within (there c.args.self.now.columns) c.args.self.now.summands.now c.in-Some.at (sym c.in-Some.ensures) in search rules

pub returns-in-Some : goal.returns-in-Some
returns-in-Some c = sym (summand_absent _ _ c.args.self.now.summands.now c.args.self.now.links.now c.if-self-columns.false c.in-Some.at (sym c.in-Some.ensures))

pub returns-in_err-at : goal.returns-in_err-at
returns-in_err-at c =
    c.from_residual.ensures
    ∙ sym (link_absent_at _ _ c.args.self.now.summands.now c.args.self.now.links.now c.if-self-columns.false (search rules) None (sym c.first_absent.ensures ∙ c.in_err-at.was))

pub link_entry-requires : goal.link_entry-requires
link_entry-requires c = first_within (present c.args.self.now.columns) c.args.self.now.links.now c.in_ok-at.at (sym c.first_absent.ensures ∙ c.in_ok-at.was)

pub returns : goal.returns
returns c =
    ap Some c.link_entry.ensures
    ∙ sym (link_absent_at _ _ c.args.self.now.summands.now c.args.self.now.links.now c.if-self-columns.false (search rules) (Some c.in_ok-at.at) (sym c.first_absent.ensures ∙ c.in_ok-at.was))
