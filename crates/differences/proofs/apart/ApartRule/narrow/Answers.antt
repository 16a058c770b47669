use Rattle.std.proofs.Common.{sym, refl, arith}
use Rattle.rules.proofs.Failing.{answer_ok, taken}
use Rattle.differences.proofs.Settings.{has_set}
use Rattle.rules.proofs.Setting.{none_if_ok}
use Rattle.differences.proofs.Means.{fresh_narrowed, taken_by, set_narrowed}
use Rattle.differences.proofs.apart.ApartRule.narrow.Goals as goal

pub returns-then-not-is_set : goal.returns-then-not-is_set
returns-then-not-is_set c =
    let ok = answer_ok _ (sym c.in_ok-check_windows.ensures.value) in
    record { same = refl; outcome = fresh_narrowed c.args.self.now c.width.result c.args.windows.now c.width.ensures ok (sym c.if-not-is_set.ensures) }

pub cut-requires : goal.cut-requires
cut-requires c =
    let is_set = sym c.if-not-is_set.ensures in
    let ok = answer_ok _ (sym c.in_ok-check_windows.ensures.value) in
    let row = has_set _ _ _ _ (none_if_ok _ is_set) in
    let given = taken _ _ (taken_by c.args.self.now c.width.result c.args.windows.now c.width.ensures ok is_set) in
    record {
      lawful = given.0;
      there = (omega (arith, row.there, given.1), omega (arith, row.there, given.1));
      two = row.two;
      range = row.in_range;
    }

pub returns : goal.returns
returns c =
    let ok = answer_ok _ (sym c.in_ok-check_windows.ensures.value) in
    record {
      same = refl;
      outcome =
          set_narrowed c.args.self.now c.width.result c.args.windows.now c.width.ensures ok (sym c.if-not-is_set.ensures) c.cut.result c.cut.new.windows
          c.cut.ensures.left c.cut.ensures.stays;
    }
