use Rattle.std.proofs.Common.{ℕ, ◌*◌, ◌<◌, ◌≤◌, pos, ◌-ℤ◌, nat_abs, ◌<ℤ◌, ⊎_elim, arith}
use Rattle.std.proofs.lemmas.Int.{ints}
use Rattle.std.proofs.lemmas.Bool.{cases_lt}
use Rattle.totals.proofs.Jumping.{next_at}
use Rattle.totals.proofs.reaching.next.Goals as goal

-- the jump ends at or before `last`
ends : (c : goal.After-jump) → (t : ℕ) → t < c.jump.result → pos (t * c.args.moving) <ℤ c.args.deficit
ends c t h = let s = c.jump.ensures.short t h in let p = c.requires in omega (arith, ints)

steps : (c : goal.After-jump) → c.jump.result ≤ nat_abs (c.args.last -ℤ c.args.v)
steps c =
    let s = nat_abs (c.args.last -ℤ c.args.v) in
    ⊎_elim (λ lt. let f = ends c s lt in let p = c.requires.reached in absurd (omega (arith, ints))) (λ ge. ge) (cases_lt s c.jump.result)

pub overflow_cast-result : goal.overflow_cast-result
overflow_cast-result c = let s = steps c in let p = c.requires in omega (arith, ints)

pub overflow_add-result : goal.overflow_add-result
overflow_add-result c = let s = steps c in let p = c.requires in omega (arith, ints)

pub returns : goal.returns
returns c =
    let s = steps c in
    next_at c.args.v c.args.last c.args.deficit c.args.moving c.jump.result _ c.requires.order c.jump.ensures.some (let p = c.requires in omega (arith, ints)) (ends c) c.requires.reached
