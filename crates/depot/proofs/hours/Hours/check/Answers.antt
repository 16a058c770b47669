use Rattle.std.proofs.Common.{Err, ap, ◌∙◌}
use Rattle.std.proofs.lemmas.Result.{err_from_is_err_and}
use Rattle.rules.specs.declared.fault.Fault.{Fault}
use Rattle.depot.specs.Quarters.{column_count, no_column, never_open, accepted}
use Rattle.depot.proofs.Settings.{answered}
use Rattle.depot.proofs.hours.Hours.check.Goals as goal

pub returns-in_err-check_columns : goal.returns-in_err-check_columns
returns-in_err-check_columns c =
    let p = err_from_is_err_and c.from_residual.result c.from_residual.ensures.1 in
    let refused = c.in_err-check_columns.ensures.law in
    let a = answered c.args.columns c.args.self.now.column c.args.self.now.opens c.args.self.now.closes _ (column_count refused.0) in
    record { value = p.1 ∙ ap (λ (f : Fault). Err f) (p.2 ∙ refused.1) ∙ a.0; law = a.1 }

pub returns-then-self-columns : goal.returns-then-self-columns
returns-then-self-columns c =
    let a = answered c.args.columns c.args.self.now.column c.args.self.now.opens c.args.self.now.closes _ (no_column c.in_ok-check_columns.ensures.law c.if-self-columns.true) in
    record { value = a.0; law = a.1 }

pub returns-then-self : goal.returns-then-self
returns-then-self c =
    let a = answered c.args.columns c.args.self.now.column c.args.self.now.opens c.args.self.now.closes _ (never_open c.in_ok-check_columns.ensures.law c.if-self-columns.false c.if-self.true) in
    record { value = a.0; law = a.1 }

pub returns : goal.returns
returns c =
    let a = answered c.args.columns c.args.self.now.column c.args.self.now.opens c.args.self.now.closes _ (accepted c.in_ok-check_columns.ensures.law c.if-self-columns.false c.if-self.false) in
    record { value = a.0; law = a.1 }
