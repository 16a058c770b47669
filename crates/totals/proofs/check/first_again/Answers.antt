use Rattle.std.proofs.Common.{false, replicate, sym, refl}
use Rattle.totals.proofs.Again.{looking_hit, looking_more, looking_all, looking_none, none_seen}
use Rattle.totals.proofs.check.first_again.Goals as goal

pub loop-i-init : goal.loop-i-init
loop-i-init c = looking_none _ _ (replicate 32 false) c.requires.total refl (λ d h. none_seen 32 d)

pub returns-then-seen-column : goal.returns-then-seen-column
returns-then-seen-column c =
    sym (looking_hit _ _ c.loop-i.seen c.loop-i.i c.loop-i-test.true (c.requires.there.there c.loop-i.i c.loop-i-test.true) c.if-seen-column.true c.loop-i.invariant)

pub loop-i-preserved : goal.loop-i-preserved
loop-i-preserved c =
    looking_more _ _ c.loop-i.seen c.loop-i.i c.loop-i-test.true (c.requires.there.there c.loop-i.i c.loop-i-test.true) c.if-seen-column.false c.loop-i.invariant

pub returns : goal.returns
returns c = sym (looking_all _ _ c.loop-i.seen c.loop-i.i c.loop-i-test.false c.loop-i.invariant)
