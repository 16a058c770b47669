use Rattle.std.proofs.Common.{rules, arith}
use Rattle.std.proofs.lemmas.Int.{ints, clamps}
use Rattle.totals.proofs.reaching.Limit.reach.Goals as goal

pub returns : goal.returns
returns c =
    record {
      sum = omega (arith, ints, clamps, c.min.ensures.value, c.from.ensures);
      moving = search rules;
      few = search rules;
      low = omega (arith, ints, clamps, c.min.ensures.value, c.from.ensures);
      high = omega (arith, ints, clamps, c.min.ensures.value, c.from.ensures);
    }
