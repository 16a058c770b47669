use Rattle.std.proofs.Common.{◌∙◌, arith}
use Rattle.rules.proofs.Enumerating.{enumerates}
use Rattle.rules.proofs.Trimming.{exact, rests, narrowed_at}
use Rattle.rules.proofs.narrowing.trim.Goals as goal

pub returns : goal.returns
returns g c =
    let m = g.R.Rule.meaning c.args.rule.now in
    let vs = c.args.windows.now in
    let ws = c.narrow.new.windows in
    let r = c.narrow.result in
    let out = narrowed_at m _ vs ws r c.columns.ensures.same c.narrow.ensures.outcome in
    record {
      same = c.narrow.ensures.same ∙ c.columns.ensures.same;
      outcome = out;
      exact = exact m (omega (arith, c.columns.ensures.value, c.columns.ensures.few.0)) vs ws r out;
      rests = rests m (omega (arith, c.columns.ensures.value, c.columns.ensures.few.0)) vs ws r out;
      enumeration = enumerates;
    }
