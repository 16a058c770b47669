use Rattle.std.proofs.Common.{◌≡◌, ℕ, length, sym, refl, ap, ◌∙◌, subst, inl, Ok, rules, arith}
use Rattle.rules.proofs.Windows.{inside-length}
use Rattle.differences.specs.Tables.{Closed}
use Rattle.totals.specs.Cuts.{Columns, Trims}
use Rattle.totals.proofs.Meeting.{ends_obey, opened_trims, met_outcome, copy_open, copy_void, copy_taken}
use Rattle.totals.proofs.trim.trim_total.Goals as goal

pub unwrap-requires : goal.unwrap-requires
unwrap-requires g c =
    let copy : c.copy_from_slice.new.self ≡ c.args.windows.now = search rules in
    copy_taken _ (g.D.Distance.distance c.args.distances.now) _ c.args.windows.now _ copy c.requires.width c.trim_by.result c.requires.lawful c.trim_by.ensures

pub invariant_of-settled : goal.invariant_of-settled
invariant_of-settled g c =
    let d = g.D.Distance.distance c.args.distances.now in
    let vs = c.args.windows.now in
    let ms = c.trim_by.new.windows in
    let copy : c.copy_from_slice.new.self ≡ vs = search rules in
    let o = copy_open _ d _ vs ms copy c.requires.width _ (c.unwrap.ensures ∙ ap Ok c.in-Open.is) c.trim_by.ensures in
    let long = inside-length ms vs o.shrinks in
    record {
      closed = subst (λ (j : ℕ). Closed j d) (sym long) c.requires.closed;
      lawful = o.lawful_after;
      ends = ends_obey (length ms) d vs ms refl (subst (λ (j : ℕ). Trims j d vs ms) (sym long) (opened_trims _ d vs ms o));
      few = c.requires.few;
      there = subst (λ (j : ℕ). Columns j c.args.summands.now) (sym long) c.requires.there;
      here = omega (arith, c.requires.here);
      highest = c.fill_tops.ensures;
      lowest = c.fill_bottoms.ensures;
    }

pub returns-in-Open : goal.returns-in-Open
returns-in-Open g c =
    let d = g.D.Distance.distance c.args.distances.now in
    let vs = c.args.windows.now in
    let ms = c.trim_by.new.windows in
    let copy : c.copy_from_slice.new.self ≡ vs = search rules in
    let o = copy_open _ d _ vs ms copy c.requires.width _ (c.unwrap.ensures ∙ ap Ok c.in-Open.is) c.trim_by.ensures in
    met_outcome _ _ d _ _ vs ms _ (inside-length ms vs o.shrinks) (omega arith) o _ c.meet.ensures

pub returns-in-Void : goal.returns-in-Void
returns-in-Void g c =
    let copy : c.copy_from_slice.new.self ≡ c.args.windows.now = search rules in
    (inl (copy_void _ (g.D.Distance.distance c.args.distances.now) _ c.args.windows.now _ copy c.requires.width _ (c.unwrap.ensures ∙ ap Ok c.in-Void.is) c.trim_by.ensures), refl)
