use Rattle.std.proofs.Common.{◌++◌, map, drop, set, ap, ◌∙◌, arith}
use Rattle.std.proofs.lemmas.List.{take_all, drop_all, append-nil, get_or_default}
use Rattle.std.proofs.lemmas.List.Edits.{map_over_more}
use Rattle.rules.specs.Plans.{lawful, window_at}
use Rattle.rules.proofs.Windows.{lawful_at}
use Rattle.layers.specs.Mirror.{mirrored}
use Rattle.layers.proofs.Mirroring.{not_yet}
use Rattle.layers.proofs.mirror.turn.Goals as goal

pub opposite-requires : goal.opposite-requires
opposite-requires c =
    let vs = c.args.windows.now in
    let i = c.loop-window.window-index in
    ap (λ ws. lawful (window_at ws i)) c.loop-window.invariant ∙ ap lawful (not_yet mirrored vs i c.loop-window-test.true) ∙ lawful_at vs i c.requires c.loop-window-test.true

pub loop-window-preserved : goal.loop-window-preserved
loop-window-preserved c =
    let vs = c.args.windows.now in
    let ws = c.loop-window.windows in
    let i = c.loop-window.window-index in
    ap (set ws i) c.opposite.ensures ∙ map_over_more mirrored vs ws i (window_at ws i) c.loop-window-test.true c.loop-window.invariant (get_or_default ws i _ _ (omega arith))

pub returns : goal.returns
returns c =
    let vs = c.args.windows.now in
    let i = c.loop-window.window-index in
    c.loop-window.invariant
    ∙ ap (λ ws. map mirrored ws ++ drop i vs) (take_all i vs c.loop-window-test.false)
    ∙ ap (λ ws. map mirrored vs ++ ws) (drop_all i vs c.loop-window-test.false)
    ∙ append-nil (map mirrored vs)
