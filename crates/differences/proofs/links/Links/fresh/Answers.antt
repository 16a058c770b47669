use Rattle.std.proofs.Common.{List, ap, ◌∙◌, arith}
use Rattle.differences.specs.declared.link.Link.{Link}
use Rattle.differences.specs.Links.{all_linked, links_meaning}
use Rattle.differences.proofs.links.Links.fresh.Goals as goal

pub invariant_of-result : goal.invariant_of-result
invariant_of-result c =
    record {
      some = omega arith;
      few = omega arith;
      wide = c.fresh.ensures.width;
      same = λ x there. ap (λ (ls : List Link). all_linked ls x) c.empty.ensures ∙ c.fresh.ensures.same x there;
    }

pub returns : goal.returns
returns c = ap (λ (ls : List Link). links_meaning 1 ls) c.empty.ensures
