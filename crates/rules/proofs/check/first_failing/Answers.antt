use Rattle.std.proofs.Common.{◌≡◌, true, false, sym}
use Rattle.std.proofs.lemmas.List.Elements.{at_read, AllWithin-more, AllWithin-upto}
use Rattle.rules.proofs.Failing.{first_found, none_found}
use Rattle.rules.proofs.check.first_failing.Goals as goal

pub returns-then-not-passes : goal.returns-then-not-passes
returns-then-not-passes g c =
    let test = g.P.Test.accepts c.args.test.now in
    let xs = c.args.items.now in
    sym (first_found test xs c.loop-i.i
    (record {
      within = c.loop-i-test.true;
      fails = at_read xs (λ x. test x ≡ false) _ c.index-items-i.result c.loop-i-test.true c.index-items-i.is (sym c.if-not-passes.ensures);
      before = c.loop-i.invariant;
    }))

pub loop-i-preserved : goal.loop-i-preserved
loop-i-preserved g c =
    let test = g.P.Test.accepts c.args.test.now in
    let xs = c.args.items.now in
    AllWithin-more (λ x. test x ≡ true) xs 0 c.loop-i.i c.loop-i.invariant
    (at_read xs (λ x. test x ≡ true) _ c.index-items-i.result c.loop-i-test.true c.index-items-i.is (sym c.if-not-passes.ensures))

pub returns : goal.returns
returns g c =
    let test = g.P.Test.accepts c.args.test.now in
    sym (none_found test c.args.items.now (AllWithin-upto (λ x. test x ≡ true) _ 0 c.loop-i.i _ c.loop-i-test.false c.loop-i.invariant))
