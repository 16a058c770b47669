use Rattle.std.proofs.Common.{◌<◌, List, ℤ, Option, sym, subst, arith, length-take}
use Rattle.rings.specs.Tables.{entry, Moderate}
use Rattle.rings.proofs.Rows.{passing_none, still, passing_more, passing_all}
use Rattle.rings.proofs.walks.Table.pass.Goals as goal

pub loop-row-init : goal.loop-row-init
loop-row-init c = passing_none _ _ _

pub relax-requires : goal.relax-requires
relax-requires c =
    let i = c.loop-row.row-index in
    let there : i < c.args.self.now.columns = omega (arith, length-take c.args.self.now.columns c.args.self.now.rows) in
    record {
      few = c.requires.few;
      through = c.requires.moderate.each c.args.m c.requires.m_there;
      leg = subst (λ (row : List (Option ℤ)). Moderate (entry row c.args.m)) (sym (still _ _ _ _ i c.loop-row-test.true c.loop-row.invariant))
          ((c.requires.moderate.each i there).each c.args.m c.requires.m_there);
    }

pub loop-row-preserved : goal.loop-row-preserved
loop-row-preserved c = passing_more _ _ _ c.loop-row.row-items _ _ c.loop-row-test.true c.loop-row.invariant c.relax.ensures

pub returns-clause-stepped : goal.returns-clause-stepped
returns-clause-stepped c = passing_all _ _ _ _ _ c.loop-row.row-index (omega arith) c.loop-row-test.false c.loop-row.invariant
