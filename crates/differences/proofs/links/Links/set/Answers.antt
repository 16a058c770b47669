use Rattle.std.proofs.Common.{◌≡◌, ℕ, List, Err, sym, refl, ap, ◌∙◌, arith}
use Rattle.std.proofs.lemmas.Result.{err_from_is_err_and}
use Rattle.rules.specs.declared.fault.Fault.{Fault}
use Rattle.rules.specs.Refusals.{answer}
use Rattle.differences.specs.declared.link.Link.{Link}
use Rattle.differences.specs.Links.{all_linked, links_meaning}
use Rattle.differences.proofs.Judging.{links_taken, links_judged}
use Rattle.differences.proofs.Linking.{made_says}
use Rattle.differences.proofs.links.Links.set.Goals as goal

pub returns-in_err-distances : goal.returns-in_err-distances
returns-in_err-distances c =
    let p = err_from_is_err_and c.from_residual.result c.from_residual.ensures.1 in
    record {
      value = p.1 ∙ (ap (λ (f : Fault). Err f) p.2 ∙ ap answer (sym c.in_err-distances.ensures));
      law = links_judged _ _;
      taken = λ e. let z : ◌≡◌ {A = ℕ} 0 1 = cc in absurd (omega arith);
      kept = λ e. let z : ◌≡◌ {A = ℕ} 0 1 = cc in absurd (omega arith);
      refused = λ f e. refl;
    }

pub invariant_of-self : goal.invariant_of-self
invariant_of-self c =
    let says = made_says c.args.columns c.args.links.now c.in_ok-distances.distances c.in_ok-distances.ensures in
    let known = links_taken c.args.columns c.args.links.now says.accepted in
    record {
      some = known.some;
      few = known.few;
      wide = says.wide;
      same = λ x there. ap (λ (ls : List Link). all_linked ls x) c.in_ok-of.ensures.1 ∙ says.same x there;
    }

pub returns : goal.returns
returns c =
    let says = made_says c.args.columns c.args.links.now c.in_ok-distances.distances c.in_ok-distances.ensures in
    record {
      value = ap answer (sym says.accepted);
      law = links_judged _ _;
      taken = λ _. ap (λ (ls : List Link). links_meaning c.args.columns ls) c.in_ok-of.ensures.1;
      kept = λ _. (refl, c.in_ok-of.ensures.1);
      refused = λ f e. let z : ◌≡◌ {A = ℕ} 0 1 = cc in absurd (omega arith);
    }

pub returns-in_err-of : goal.returns-in_err-of
returns-in_err-of c =
    let says = made_says c.args.columns c.args.links.now c.in_ok-distances.distances c.in_ok-distances.ensures in
    let known = links_taken c.args.columns c.args.links.now says.accepted in
    absurd (omega (arith, known.fit, c.in_err-of.ensures.0))
