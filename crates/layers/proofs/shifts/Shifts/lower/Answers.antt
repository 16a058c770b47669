use Rattle.std.proofs.Common.{map, ap, ◌∙◌, arith, w32, SFits, rules}
use Rattle.std.proofs.lemmas.Int.{to_z-of_z}
use Rattle.std.proofs.lemmas.List.{length-map}
use Rattle.rules.specs.Plans.{window_at}
use Rattle.rules.proofs.Windows.{lawful_at}
use Rattle.layers.specs.Offset.{cut, shift_window, shift_windows, is_shift}
use Rattle.layers.specs.Shifts.{shifts_of}
use Rattle.layers.proofs.Shifting.{to_below, all_below, length_windows}
use Rattle.layers.proofs.Writing.{written_more, written_all}
use Rattle.layers.proofs.shifts.Shifts.lower.Goals as goal

pub lowered-requires : goal.lowered-requires
lowered-requires c =
    let fits : SFits w32 c.at.result = search rules in
    record {
      lawful = lawful_at c.args.windows.now c.loop-i.i c.requires.lawful (omega (arith, c.requires.even));
      near = ap is_shift (to_z-of_z w32 _ fits) ∙ c.at.ensures.near;
    }

pub loop-i-preserved : goal.loop-i-preserved
loop-i-preserved c =
    let ss = shifts_of c.args.self.now in
    let ws = c.args.windows.now in
    let i = c.loop-i.i in
    let fits : SFits w32 c.at.result = search rules in
    written_more (to_below ss) ws c.loop-i.below i c.lowered.result (omega arith) c.loop-i.invariant
    (c.lowered.ensures ∙ ap (λ s. cut (shift_window s (window_at ws i))) (to_z-of_z w32 _ fits ∙ c.at.ensures.value))

pub returns : goal.returns
returns c =
    let ss = shifts_of c.args.self.now in
    let ws = c.args.windows.now in
    written_all (to_below ss) ws c.loop-i.below (map cut (shift_windows ss ws)) c.loop-i.i
    (omega arith) (length-map (shift_windows ss ws) cut ∙ length_windows ss ws) (omega (arith, c.requires.even)) c.loop-i.invariant (all_below ss ws)
