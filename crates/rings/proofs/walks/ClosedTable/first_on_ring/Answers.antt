use Rattle.std.proofs.Common.{◌≡◌, true, false, rules, tests}
use Rattle.std.proofs.lemmas.Iterator.{first_from_Range}
use Rattle.rings.specs.Tables.{at, on_ring_below}
use Rattle.rings.proofs.Searching.{first_below}
use Rattle.rings.proofs.walks.ClosedTable.first_on_ring.Goals as goal

pub returns : goal.returns
returns c =
    let test = on_ring_below c.args.self.now.columns (at c.args.self.now.rows.now) in
    first_below _ test _ (first_from_Range _ _ _ _ (λ i. test i ≡ true) (λ i. test i ≡ false) c.find.ensures.ran (λ x q k. search (rules, tests)) (λ x q k. search (rules, tests)))
