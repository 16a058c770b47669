use Rattle.std.proofs.Common.{true, false, sym, refl, ap, ◌∙◌}
use Rattle.std.specs.Option.{option_map}
use Rattle.totals.proofs.LinkedRows.{unset_narrowed, void_narrowed, ready, table_narrowed}
use Rattle.totals.proofs.linked.rule.LinkedSumRule.narrow.Goals as goal

pub returns-then-not-is_set : goal.returns-then-not-is_set
returns-then-not-is_set c =
    record {
      same = refl;
      outcome = unset_narrowed c.args.self.now c.args.windows.now c.width.result c.width.ensures c.in_ok-check_windows.ensures.value false c.if-not-is_set.ensures refl;
    }

pub trim_total-requires : goal.trim_total-requires
trim_total-requires c =
    let r = c.args.self.now in
    let asked = ready r c.args.windows.now c.width.result c.width.ensures c.in_ok-check_windows.ensures.value true c.if-not-is_set.ensures refl c.in-Some.distances.now (sym c.distances.ensures ∙ ap (option_map (λ d. d.now)) c.in-Some.is) _ c.as_slice.ensures in
    record {
      width = asked.width;
      closed = asked.closed;
      columns = asked.columns;
      lawful = asked.lawful;
      few = asked.few;
      there = asked.there;
      here = asked.here;
    }

pub returns-in-None : goal.returns-in-None
returns-in-None c =
    record {
      same = refl;
      outcome = void_narrowed c.args.self.now c.args.windows.now c.width.result c.width.ensures c.in_ok-check_windows.ensures.value true c.if-not-is_set.ensures refl (sym c.distances.ensures ∙ ap (option_map (λ d. d.now)) c.in-None.is);
    }

pub returns-in-Some : goal.returns-in-Some
returns-in-Some c =
    let r = c.args.self.now in
    record {
      same = refl;
      outcome = table_narrowed r c.args.windows.now c.width.result c.width.ensures c.in_ok-check_windows.ensures.value true c.if-not-is_set.ensures refl c.in-Some.distances.now (sym c.distances.ensures ∙ ap (option_map (λ d. d.now)) c.in-Some.is) _ c.as_slice.ensures c.trim_total.result c.trim_total.new.windows c.trim_total.ensures;
    }
