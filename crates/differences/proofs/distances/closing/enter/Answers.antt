use Rattle.std.proofs.Common.{refl, arith}
use Rattle.std.proofs.lemmas.Int.{ints, clamps}
use Rattle.differences.specs.Closing.{link_at}
use Rattle.differences.proofs.Entering.{entered_none, entered_more}
use Rattle.differences.proofs.distances.closing.enter.Goals as goal

pub loop-link-init : goal.loop-link-init
loop-link-init c = entered_none _ _ _ c.requires.few c.requires.unlinked

pub loop-link-preserved : goal.loop-link-preserved
loop-link-preserved c =
    let n = c.loop-link.link-index in
    let lt = c.loop-link-test.true in
    let link = link_at c.args.links.now n in
    let good = c.requires.good in
    let was = (c.loop-link.invariant.near.near link.right (good.right n lt)).near link.left (good.left n lt) in
    entered_more _ _ n lt good c.loop-link.rows c.loop-link.invariant link.right link.left c.lower.new.row refl refl
    (omega (arith, good.right n lt)) (omega (arith, ints, clamps, was, good.near n lt, c.lower.ensures.same)) c.lower.ensures.other
