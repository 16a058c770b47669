use Rattle.std.proofs.Common.{◌≡◌, ℕ, ◌+◌, ◌*◌, ◌<◌, ◌≤◌, sym, ap, subst, ⊎_elim, mul-le-mul_right, add-mul, one-mul, zero-mul, arith}
use Rattle.std.proofs.lemmas.Bool.{cases_lt}
use Rattle.std.proofs.lemmas.Grind.{div_ceil_times}
use Rattle.totals.proofs.reaching.jump.Goals as goal

pub returns : goal.returns
returns c =
    let d = c.args.deficit in
    let m = c.args.moving in
    let q = c.div_ceil.result in
    let (low, high) = subst (λ (n : ℕ). (d ≤ n * m) × (n * m < d + m)) (sym c.div_ceil.ensures) (div_ceil_times d m c.requires.moving) in
    record {
      some = ⊎_elim (λ h. h) (λ h. let z : q ≡ 0 = omega arith in let e = ap (λ (n : ℕ). n * m) z in let f = zero-mul m in absurd (omega (arith, c.requires))) (cases_lt 0 q);
      enough = low;
      short = λ t h. let g : (t + 1) * m ≤ q * m = mul-le-mul_right m (let n : t + 1 ≤ q = omega arith in n) in let e = add-mul t 1 m in let f = one-mul m in omega (arith, c.requires);
    }
