use Rattle.std.proofs.Common.{ℕ, List, length, sym, subst, arith}
use Rattle.std.proofs.lemmas.List.{length-take}
use Rattle.rules.specs.declared.window.Window.{Window}
use Rattle.differences.specs.Tables.{Closed}
use Rattle.differences.specs.Ends.{AllCut}
use Rattle.differences.proofs.Cutting.{trim_taken, trim_voids, trim_opens}
use Rattle.differences.proofs.trim.trim_by.Goals as goal

pub cut_all-requires : goal.cut_all-requires
cut_all-requires g c =
    let vs = c.args.windows.now in
    let k = g.D.Distance.width c.args.distances.now in
    let d = g.D.Distance.distance c.args.distances.now in
    let known = trim_taken k c.columns.result vs c.columns.ensures.value c.in_ok-check_windows.ensures.value in
    record {
      closed = subst (λ (n : ℕ). Closed n d) (sym known.1) c.columns.ensures.closed;
      lawful = known.0;
      even = simp length-take (omega (arith, known.1, c.columns.ensures.value, c.columns.ensures.few.1));
    }

pub returns-in-None : goal.returns-in-None
returns-in-None g c =
    let vs = c.args.windows.now in
    let k = g.D.Distance.width c.args.distances.now in
    let d = g.D.Distance.distance c.args.distances.now in
    let known = trim_taken k c.columns.result vs c.columns.ensures.value c.in_ok-check_windows.ensures.value in
    trim_voids k d vs known.0 known.1 c.in-None.ensures

pub returns-in-Some : goal.returns-in-Some
returns-in-Some g c =
    let vs = c.args.windows.now in
    let k = g.D.Distance.width c.args.distances.now in
    let d = g.D.Distance.distance c.args.distances.now in
    let known = trim_taken k c.columns.result vs c.columns.ensures.value c.in_ok-check_windows.ensures.value in
    trim_opens k d vs c.copy_from_slice.new.self c.columns.ensures.closed known.0 known.1 c.copy_from_slice.ensures.len
    (subst (λ (ws : List Window). AllCut (length vs) d vs ws (length vs)) (sym c.copy_from_slice.ensures.after) c.in-Some.ensures)
