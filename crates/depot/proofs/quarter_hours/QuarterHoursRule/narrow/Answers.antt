use Rattle.std.proofs.Common.{sym, refl, arith}
use Rattle.rules.proofs.Failing.{answer_ok, taken}
use Rattle.depot.proofs.Points.{column_held, free_points, bound_points}
use Rattle.depot.proofs.quarter_hours.QuarterHoursRule.narrow.Goals as goal

pub cut-requires : goal.cut-requires
cut-requires c =
    let given = taken c.args.self.now.columns c.args.windows.now (answer_ok _ (sym c.in_ok-check_windows.ensures.value)) in
    record { lawful = given.0; there = omega (arith, given.1, column_held c.args.self.now.columns c.args.self.now.hours c.in-Some.hours c.in-Some.is c.args.self.now.there) }

pub returns-in-None : goal.returns-in-None
returns-in-None c =
    record {
      same = refl;
      outcome = free_points c.args.self.now.columns c.args.self.now.hours c.args.windows.now c.in-None.is (answer_ok _ (sym c.in_ok-check_windows.ensures.value));
      note = c.saturating_add-self.ensures;
    }

pub returns-in-Some : goal.returns-in-Some
returns-in-Some c =
    let given = taken c.args.self.now.columns c.args.windows.now (answer_ok _ (sym c.in_ok-check_windows.ensures.value)) in
    record {
      same = refl;
      outcome = bound_points c.args.self.now.columns c.args.self.now.hours c.in-Some.hours c.args.windows.now c.cut.new.windows c.cut.result c.in-Some.is given.1 c.cut.ensures;
      note = c.saturating_add-self.ensures;
    }
