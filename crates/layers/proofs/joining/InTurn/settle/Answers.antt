use Rattle.std.proofs.Common.{refl, ap, ◌∙◌, arith}
use Rattle.rules.specs.declared.verdict.Verdict.TheVariants.{Open, Void}
use Rattle.rules.proofs.Failing.{taken}
use Rattle.layers.specs.Joining.{most_columns}
use Rattle.layers.proofs.Turns.{under_none, under_more, under_void, turn_less, turn_last, turned_at}
use Rattle.layers.proofs.joining.InTurn.settle.Goals as goal

pub turns-init : goal.turns-init
turns-init g c = (refl, under_none _ _ (taken _ _ c.requires.taken).0)

pub turn-requires : goal.turn-requires
turn-requires g c =
    record {
      lawful = c.turns.invariant.1.lawful_now;
      room = omega (arith, (taken _ _ c.requires.taken).1, ap most_columns c.turns.invariant.0, c.turns.auto.windows);
    }

pub returns-in-Void : goal.returns-in-Void
returns-in-Void g c =
    let t = turned_at (g.Self.InTurn.meanings c.args.self.now) _ c.turns.windows c.turn.new.windows Void c.turns.invariant.0 c.in-Void.ensures.outcome in
    record { same = c.turn.ensures.same ∙ c.turns.invariant.0; outcome = under_void _ _ _ c.turn.new.windows c.turns.invariant.1 t }

pub returns-then-total_width-before : goal.returns-then-total_width-before
returns-then-total_width-before g c =
    let t = turned_at (g.Self.InTurn.meanings c.args.self.now) _ c.turns.windows c.turn.new.windows Open c.turns.invariant.0 c.in_default.ensures.outcome in
    record {
      same = c.turn.ensures.same ∙ c.turns.invariant.0;
      outcome = turn_last _ _ _ _ c.turns.invariant.1 t c.requires.taken (omega arith);
    }

pub turns-smaller : goal.turns-smaller
turns-smaller g c =
    let t = turned_at (g.Self.InTurn.meanings c.args.self.now) _ c.turns.windows c.turn.new.windows Open c.turns.invariant.0 c.in_default.ensures.outcome in
    turn_less _ _ _ _ c.turns.invariant.1 t (λ e. c.if-total_width-before.false (omega arith))

pub turns-preserved : goal.turns-preserved
turns-preserved g c =
    let t = turned_at (g.Self.InTurn.meanings c.args.self.now) _ c.turns.windows c.turn.new.windows Open c.turns.invariant.0 c.in_default.ensures.outcome in
    (c.turn.ensures.same ∙ c.turns.invariant.0, under_more _ _ _ _ c.turns.invariant.1 t)
