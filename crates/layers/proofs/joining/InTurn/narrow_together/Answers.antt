use Rattle.std.proofs.Common.{length, sym, ap, ◌∙◌, arith}
use Rattle.rules.specs.Refusals.{window_refusal}
use Rattle.rules.proofs.Failing.{answer_ok, taken}
use Rattle.layers.proofs.Turns.{written_back, left_alone}
use Rattle.layers.proofs.joining.InTurn.narrow_together.Goals as goal

pub settle-verdict-requires : goal.settle-verdict-requires
settle-verdict-requires g c =
    let ok = answer_ok _ (sym c.in_ok-check_windows.ensures.value) in
    let copied = c.copy_from_slice.ensures.after in
    record {
      taken = (λ i. window_refusal (sym c.requires.width i) (copied i)) ∙ ok;
      few = omega (arith, (taken c.args.columns c.args.windows.now ok).1, ap length copied);
    }

pub returns-in-Open : goal.returns-in-Open
returns-in-Open g c =
    record {
      same = c.settle-verdict.ensures.same;
      outcome = rw c.in-Open.is (written_back _ c.args.windows.now c.copy_from_slice.new.self c.copy_from_slice.ensures.after c.settle-verdict.new.windows c.copy_from_slice-in-Open.new.self c.copy_from_slice-in-Open.ensures.after c.in-Open.ensures.outcome);
    }

pub returns-in_default : goal.returns-in_default
returns-in_default g c =
    let ok = ap (λ k. window_refusal k c.args.windows.now) (sym c.requires.width) ∙ answer_ok _ (sym c.in_ok-check_windows.ensures.value) in
    record {
      same = c.settle-verdict.ensures.same;
      outcome = rw c.in_default.is (left_alone (g.Self.InTurn.meanings c.args.self.now) c.args.windows.now c.copy_from_slice.new.self c.copy_from_slice.ensures.after c.settle-verdict.new.windows ok c.in_default.ensures.outcome);
    }
