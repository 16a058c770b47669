use Rattle.std.proofs.Common.{◌≡◌, ℕ, sym, ◌∙◌, subst, arith}
use Rattle.rings.specs.Tables.{at, Walks, Stepped, ModerateRows}
use Rattle.rings.proofs.Entries.{closing_none, closing_more, closing_moderate, closing_bounded}
use Rattle.rings.proofs.Offered.{taken}
use Rattle.rings.proofs.walks.Table.fill.Goals as goal

pub loop-m-init : goal.loop-m-init
loop-m-init c = record { columns = c.enter.ensures.columns; closing = closing_none _ _ _ c.enter.ensures.entered }

pub pass-requires : goal.pass-requires
pass-requires c =
    let few = (taken _ _ c.requires.taken).few in
    let same = c.loop-m.invariant.columns in
    record {
      few = omega arith;
      m_there = omega arith;
      moderate = subst (λ (k : ℕ). ModerateRows k c.loop-m.self.rows) (sym same) (closing_moderate _ _ _ c.loop-m.self.rows few (omega arith) c.loop-m.invariant.closing);
    }

pub loop-m-preserved : goal.loop-m-preserved
loop-m-preserved c =
    let same = c.loop-m.invariant.columns in
    record {
      columns = c.pass.ensures.columns ∙ same;
      closing = closing_more _ c.loop-m.m _ _ _ (taken _ _ c.requires.taken).good (omega arith)
          (subst (λ (k : ℕ). Stepped k c.loop-m.m (at c.loop-m.self.rows) (at c.pass.new.self.rows)) same c.pass.ensures.stepped) c.loop-m.invariant.closing;
    }

pub returns-clause-walks : goal.returns-clause-walks
returns-clause-walks c =
    let all : c.loop-m.m ≡ c.args.self.now.columns = omega arith in
    subst (λ (m : ℕ). Walks c.args.self.now.columns c.args.links.now m (at c.loop-m.self.rows)) all c.loop-m.invariant.closing.walks

pub returns-clause-bounded : goal.returns-clause-bounded
returns-clause-bounded c =
    let few = (taken _ _ c.requires.taken).few in
    closing_bounded _ c.loop-m.m _ _ (omega arith) c.loop-m.invariant.closing
