use Rattle.std.proofs.Common.{sym}
use Rattle.std.proofs.lemmas.Bool.{lt-ltb}
use Rattle.depot.proofs.Settings.{set_facts}
use Rattle.depot.proofs.quarter_hours.QuarterHours.set.Goals as goal

-- what the ghost fields of the row ask
pub invariant_of-self : goal.invariant_of-self
invariant_of-self c =
    let known = set_facts c.args.columns c.args.column c.args.opens c.args.closes (sym c.in_ok-check.ensures.value) c.in_ok-check.ensures.law in
    record { some = known.0.0; few = known.0.1; there = lt-ltb _ _ known.1 }
