use Rattle.std.proofs.lemmas.Int.{to_z-of_z}
use Rattle.differences.specs.Apart.{ahead}
use Rattle.differences.proofs.Pairing.{leaves_exchanged}
use Rattle.differences.proofs.pairs.keep_apart.Goals as goal

pub returns : goal.returns
returns c =
    let gap = c.args.gap in
    let fits = c.ranges.gap in
    let a = c.args.a in
    let b = c.args.b in
    c.join.ensures (ahead gap) (λ x y. ahead gap y x) a b
    (simp to_z-of_z at c.precede-rising.ensures)
    (rw c.exchange-falling.ensures (leaves_exchanged (ahead gap) a b c.precede.result (simp to_z-of_z at c.precede.ensures)))
