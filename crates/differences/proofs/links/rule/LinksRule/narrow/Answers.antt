use Rattle.std.proofs.Common.{refl}
use Rattle.differences.proofs.Narrowing.{links_void, links_narrowed}
use Rattle.differences.proofs.links.rule.LinksRule.narrow.Goals as goal

pub returns-in_ok-check_windows-in-None : goal.returns-in_ok-check_windows-in-None
returns-in_ok-check_windows-in-None c =
    record { same = refl; outcome = links_void c.args.self.now c.args.windows.now c.in-None.is c.in_ok-check_windows-in-None.ensures.value }

pub returns-in-Some : goal.returns-in-Some
returns-in-Some c =
    record { same = refl; outcome = links_narrowed c.args.self.now c.args.windows.now c.in-Some.distances c.in-Some.is c.trim_by.result c.trim_by.new.windows c.trim_by.ensures }
