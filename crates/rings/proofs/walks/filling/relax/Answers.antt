use Rattle.std.proofs.Common.{arith, ap, ◌∙◌, length-take}
use Rattle.rings.specs.Tables.{entry, shorter}
use Rattle.rings.proofs.Rows.{relaxing_none, relaxing_more, relaxing_all}
use Rattle.rings.proofs.walks.filling.relax.Goals as goal

pub loop-j-init : goal.loop-j-init
loop-j-init c = relaxing_none _ _ _

pub joined-requires : goal.joined-requires
joined-requires c = record { leg = c.requires.leg; rest = c.requires.through.each c.loop-j.j (omega (arith, length-take c.args.columns c.args.row.now)) }

pub loop-j-preserved : goal.loop-j-preserved
loop-j-preserved c = relaxing_more _ _ _ c.loop-j.known-items c.loop-j.j _ c.loop-j-test.true c.loop-j.invariant (c.shorter.ensures ∙ ap (shorter (entry c.loop-j.known-items c.loop-j.j)) c.joined.ensures)

pub returns : goal.returns
returns c = relaxing_all _ _ _ _ _ _ c.loop-j.j (omega arith) c.loop-j-test.false c.loop-j.invariant
