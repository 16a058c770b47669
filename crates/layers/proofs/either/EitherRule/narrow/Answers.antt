use Rattle.std.proofs.Common.{length, Ok, sym, ap, ◌∙◌, subst, arith}
use Rattle.rules.specs.declared.verdict.Verdict.TheVariants.{Open, Void}
use Rattle.rules.specs.Plans.{all_lawful}
use Rattle.rules.specs.Meaning.{Opened}
use Rattle.rules.proofs.Failing.{answer_ok, taken}
use Rattle.rules.proofs.Trimming.{narrowed_at}
use Rattle.layers.specs.Either.{either_meaning}
use Rattle.layers.proofs.Spanning.{first_void, second_void, both_open, copy_asked, either_same}
use Rattle.layers.proofs.Owning.{passed_below}
use Rattle.layers.proofs.either.EitherRule.narrow.Goals as goal

pub ask-one-requires : goal.ask-one-requires
ask-one-requires g c =
    let given = taken _ c.args.windows.now (answer_ok _ (sym c.in_ok-check_windows.ensures.value)) in
    let wide = ap (λ m. m.scope.width) c.columns.ensures.same in
    record { lawful = ap all_lawful c.copy_from_slice.ensures.after ∙ given.0; room = omega (arith, wide, ap length c.copy_from_slice.ensures.after, given.1) }

pub ask-other-requires : goal.ask-other-requires
ask-other-requires g c =
    let given = taken _ c.args.windows.now (answer_ok _ (sym c.in_ok-check_windows.ensures.value)) in
    record { lawful = given.0; room = omega (arith, ap (λ m. m.scope.width) c.columns.ensures.same, given.1) }

pub returns-in-Void : goal.returns-in-Void
returns-in-Void g c =
    let a = g.A.Rule.meaning c.columns.new.self.one in
    let b = g.B.Rule.meaning c.columns.new.self.other in
    let vs = c.args.windows.now in
    let ok = passed_below _ (either_meaning a b) c.columns.result vs c.columns.ensures.same c.columns.ensures.value c.in_ok-check_windows.ensures.value in
    let one = copy_asked a vs c.copy_from_slice.new.self c.ask-one.new.windows Void c.copy_from_slice.ensures.after (rw c.in-Void.is at c.ask-one.ensures.outcome) in
    record {
      same = either_same _ a _ b c.ask-one.ensures.same c.ask-other.ensures.same ∙ c.columns.ensures.same;
      outcome = narrowed_at _ _ vs c.ask-other.new.windows (Ok c.ask-other.result) c.columns.ensures.same (first_void a b vs ok c.ask-other.result c.ask-one.new.windows c.ask-other.new.windows one c.ask-other.ensures.outcome);
    }

pub returns-in-Void-other : goal.returns-in-Void-other
returns-in-Void-other g c =
    let a = g.A.Rule.meaning c.columns.new.self.one in
    let b = g.B.Rule.meaning c.columns.new.self.other in
    let vs = c.args.windows.now in
    let ok = passed_below _ (either_meaning a b) c.columns.result vs c.columns.ensures.same c.columns.ensures.value c.in_ok-check_windows.ensures.value in
    let one = copy_asked a vs c.copy_from_slice.new.self c.ask-one.new.windows Open c.copy_from_slice.ensures.after (rw c.in_default.is at c.ask-one.ensures.outcome) in
    record {
      same = either_same _ a _ b c.ask-one.ensures.same c.ask-other.ensures.same ∙ c.columns.ensures.same;
      outcome =
          narrowed_at _ _ vs c.copy_from_slice-in-Void-other.new.self (Ok Open) c.columns.ensures.same
          (subst (Opened (either_meaning a b) vs) (sym c.copy_from_slice-in-Void-other.ensures.after)
          (second_void a b vs ok c.ask-one.new.windows c.ask-other.new.windows one (rw c.in-Void-other.is at c.ask-other.ensures.outcome)));
    }

pub returns-in-Open : goal.returns-in-Open
returns-in-Open g c =
    let a = g.A.Rule.meaning c.columns.new.self.one in
    let b = g.B.Rule.meaning c.columns.new.self.other in
    let vs = c.args.windows.now in
    let ok = passed_below _ (either_meaning a b) c.columns.result vs c.columns.ensures.same c.columns.ensures.value c.in_ok-check_windows.ensures.value in
    let one = copy_asked a vs c.copy_from_slice.new.self c.ask-one.new.windows Open c.copy_from_slice.ensures.after (rw c.in_default.is at c.ask-one.ensures.outcome) in
    record {
      same = either_same _ a _ b c.ask-one.ensures.same c.ask-other.ensures.same ∙ c.columns.ensures.same;
      outcome =
          narrowed_at _ _ vs c.span_all.new.windows (Ok Open) c.columns.ensures.same
          (both_open a b vs ok c.ask-one.new.windows c.ask-other.new.windows c.span_all.new.windows one (rw c.in-Open.is at c.ask-other.ensures.outcome) c.span_all.auto.windows c.span_all.ensures);
    }
