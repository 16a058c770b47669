use Rattle.std.proofs.Common.{Ok, ap, ◌∙◌}
use Rattle.rules.specs.declared.verdict.Verdict.TheVariants.{Open, Void}
use Rattle.rules.proofs.Trimming.{narrowed_at}
use Rattle.layers.specs.Offset.{offset_meaning}
use Rattle.layers.specs.Shifts.{shifts_of}
use Rattle.layers.proofs.Owning.{passed_below}
use Rattle.layers.proofs.Lowering.{nothing_left, something_left, raised_back, void_back}
use Rattle.layers.proofs.offset.OffsetRule.narrow.Goals as goal

pub returns-then-not-are_lawful : goal.returns-then-not-are_lawful
returns-then-not-are_lawful g c =
    let m = g.R.Rule.meaning c.columns.new.self in
    let ss = shifts_of c.args.self.now.shifts in
    let vs = c.args.windows.now in
    let ok = passed_below _ m c.columns.result vs c.columns.ensures.same c.columns.ensures.value c.in_ok-check_windows.ensures.value in
    let same = ap (λ n. offset_meaning n ss) c.columns.ensures.same in
    record {
      same = same;
      outcome = narrowed_at _ _ vs vs (Ok Void) same (nothing_left ss m vs c.lower.new.below ok c.lower.ensures c.if-not-are_lawful.ensures);
    }

pub ask_all-verdict-requires : goal.ask_all-verdict-requires
ask_all-verdict-requires g c =
    let m = g.R.Rule.meaning c.columns.new.self in
    let vs = c.args.windows.now in
    let ok = passed_below _ m c.columns.result vs c.columns.ensures.same c.columns.ensures.value c.in_ok-check_windows.ensures.value in
    something_left (shifts_of c.args.self.now.shifts) m vs c.lower.new.below ok c.lower.ensures c.if-not-are_lawful.ensures

pub returns-in-Open : goal.returns-in-Open
returns-in-Open g c =
    let m = g.R.Rule.meaning c.columns.new.self in
    let ss = shifts_of c.args.self.now.shifts in
    let vs = c.args.windows.now in
    let ok = passed_below _ m c.columns.result vs c.columns.ensures.same c.columns.ensures.value c.in_ok-check_windows.ensures.value in
    let same = ap (λ n. offset_meaning n ss) c.columns.ensures.same in
    record {
      same = ap (λ n. offset_meaning n ss) c.ask_all-verdict.ensures.same ∙ same;
      outcome =
          rw c.in-Open.is (narrowed_at _ _ vs c.raise.new.windows (Ok Open) same
          (raised_back ss m vs c.lower.new.below ok c.lower.ensures c.ask_all-verdict.new.windows c.raise.new.windows c.in-Open.ensures.outcome c.raise.ensures));
    }

pub returns-in_default : goal.returns-in_default
returns-in_default g c =
    let m = g.R.Rule.meaning c.columns.new.self in
    let ss = shifts_of c.args.self.now.shifts in
    let vs = c.args.windows.now in
    let ok = passed_below _ m c.columns.result vs c.columns.ensures.same c.columns.ensures.value c.in_ok-check_windows.ensures.value in
    let same = ap (λ n. offset_meaning n ss) c.columns.ensures.same in
    record {
      same = ap (λ n. offset_meaning n ss) c.ask_all-verdict.ensures.same ∙ same;
      outcome =
          rw c.in_default.is (narrowed_at _ _ vs vs (Ok Void) same
          (void_back ss m vs c.lower.new.below ok c.lower.ensures c.ask_all-verdict.new.windows c.in_default.ensures.outcome));
    }
