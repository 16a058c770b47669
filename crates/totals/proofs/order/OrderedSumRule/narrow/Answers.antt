use Rattle.std.proofs.Common.{sym, refl, ◌∙◌, arith}
use Rattle.rules.proofs.Failing.{answer_ok}
use Rattle.totals.proofs.Ordered.{follows_closed, follows_meets}
use Rattle.totals.proofs.Rows.{row_fresh, row_given, row_narrowed, columns_of}
use Rattle.totals.proofs.order.OrderedSumRule.narrow.Goals as goal

pub returns-then-not-is_set : goal.returns-then-not-is_set
returns-then-not-is_set g c =
    let ok = answer_ok _ (sym c.in_ok-check_windows.ensures.value) in
    record {
      same = refl;
      outcome = row_fresh g.D.Order.kind c.args.self.now.terms c.width.result c.args.windows.now c.width.ensures ok (sym c.if-not-is_set.ensures);
    }

pub of_sum-distances-requires : goal.of_sum-distances-requires
of_sum-distances-requires g c =
    let ok = answer_ok _ (sym c.in_ok-check_windows.ensures.value) in
    (row_given g.D.Order.kind c.args.self.now.terms c.width.result c.args.windows.now c.width.ensures ok (sym c.if-not-is_set.ensures)).none

pub trim_total-requires : goal.trim_total-requires
trim_total-requires g c =
    let ok = answer_ok _ (sym c.in_ok-check_windows.ensures.value) in
    let given = row_given g.D.Order.kind c.args.self.now.terms c.width.result c.args.windows.now c.width.ensures ok (sym c.if-not-is_set.ensures) in
    let held = c.as_slice-summands.ensures in
    let follows = c.of_sum-distances.ensures in
    record {
      width = given.long ∙ sym follows.width_is;
      closed = follows_closed _ _ _ _ _ _ follows _;
      columns = omega (arith, given.long, given.taken.few);
      lawful = given.lawful;
      few = rw held given.taken.fit;
      there = rw held (columns_of given.long given.taken.columns);
      here = omega (arith, given.long, given.taken.total);
    }

pub returns : goal.returns
returns g c =
    let ok = answer_ok _ (sym c.in_ok-check_windows.ensures.value) in
    let given = row_given g.D.Order.kind c.args.self.now.terms c.width.result c.args.windows.now c.width.ensures ok (sym c.if-not-is_set.ensures) in
    let held = c.as_slice-summands.ensures in
    record {
      same = refl;
      outcome =
          row_narrowed g.D.Order.kind c.args.self.now.terms c.width.result c.args.windows.now c.width.ensures ok given _ _
          (follows_meets _ _ _ _ _ _ c.of_sum-distances.ensures) c.trim_total.result c.trim_total.new.windows (rw held at c.trim_total.ensures);
    }
