use Rattle.std.proofs.Common.{◌≡◌, ◌≤◌, max, refl, arith, rules}
use Rattle.std.proofs.lemmas.Fn.{fold_over, fronts}
use Rattle.std.proofs.lemmas.Iterator.{YieldsList-from_slice}
use Rattle.layers.proofs.Listed.{SoFar, so_far_more}
use Rattle.layers.proofs.each.EachRule.columns.Goals as goal

pub returns : goal.returns
returns g c =
    let rs = c.args.self.now.rules.now in
    let all = fold_over fronts (λ x. x.now) _ (SoFar g.R.Rule.meaning) _ (λ ys a x b f' so_far k.
    let larger : b ≡ max a (g.R.Rule.meaning x.now).scope.width = search rules in
    let some : 1 ≤ (g.R.Rule.meaning x.now).scope.width = search rules in
    let few : (g.R.Rule.meaning x.now).scope.width ≤ 32 = search rules in
    (so_far_more g.R.Rule.meaning ys x.now a b so_far larger some few, search rules)) c.iter.result rs 1 _ (YieldsList-from_slice {s = c.iter.result} rs c.iter.ensures.rest).runs (record { is = refl; some = omega arith; few = omega arith }) c.fold.ensures.ran in
    record { same = refl; value = all.is; few = (all.some, all.few) }
