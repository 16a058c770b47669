use Rattle.std.proofs.Common.{neg_ℤ, ap, ◌∙◌, arith, w32, SFits, rules}
use Rattle.std.proofs.lemmas.Int.{to_z-of_z}
use Rattle.rules.specs.Plans.{window_at}
use Rattle.rules.proofs.Windows.{lawful_at}
use Rattle.layers.specs.Offset.{shift_window, shift_windows, is_shift}
use Rattle.layers.specs.Shifts.{shifts_of}
use Rattle.layers.proofs.Shifting.{back, to_above, all_above, length_windows}
use Rattle.layers.proofs.Writing.{written_more, written_all}
use Rattle.layers.proofs.shifts.Shifts.raise.Goals as goal

pub raised-requires : goal.raised-requires
raised-requires c =
    let fits : SFits w32 c.at.result = search rules in
    record {
      lawful = lawful_at c.args.below.now c.loop-i.i c.requires.lawful (omega (arith, c.requires.even));
      near = ap is_shift (to_z-of_z w32 _ fits) ∙ c.at.ensures.near;
    }

pub loop-i-preserved : goal.loop-i-preserved
loop-i-preserved c =
    let ss = shifts_of c.args.self.now in
    let ys = c.args.below.now in
    let i = c.loop-i.i in
    let fits : SFits w32 c.at.result = search rules in
    written_more (to_above ss) ys c.loop-i.windows i c.raised.result (omega arith) c.loop-i.invariant
    (c.raised.ensures ∙ ap (λ s. shift_window (neg_ℤ s) (window_at ys i)) (to_z-of_z w32 _ fits ∙ c.at.ensures.value))

pub returns : goal.returns
returns c =
    let ss = shifts_of c.args.self.now in
    let ys = c.args.below.now in
    written_all (to_above ss) ys c.loop-i.windows (shift_windows (back ss) ys) c.loop-i.i
    (omega arith) (length_windows (back ss) ys) (omega (arith, c.requires.even)) c.loop-i.invariant (all_above ss ys)
