use Rattle.std.proofs.Common.{refl, ◌∙◌, arith, rules, length-set}
use Rattle.std.proofs.ByRecursion.{has_get_or}
use Rattle.rings.proofs.Entries.{no_link, entering_none, entering_more, entering_all}
use Rattle.rings.proofs.Offered.{taken, blank_leading}
use Rattle.rings.proofs.walks.Table.enter.Goals as goal

pub loop-link-init : goal.loop-link-init
loop-link-init c =
    record {
      columns = refl;
      long = search rules;
      entering = entering_none _ _ _ (blank_leading _ _ (taken _ _ c.requires.taken).few c.requires.blank);
    }

pub offset_bounds-self-link : goal.offset_bounds-self-link
offset_bounds-self-link c =
    let a = taken _ _ c.requires.taken in
    let lt = a.good.right _ (has_get_or c.args.links.now c.loop-link.link-index no_link c.loop-link-test.true) in
    let few = a.few in
    search rules

pub bounds-self-link : goal.bounds-self-link
bounds-self-link c =
    let a = taken _ _ c.requires.taken in
    let lt = a.good.right _ (has_get_or c.args.links.now c.loop-link.link-index no_link c.loop-link-test.true) in
    omega (arith, a.few)

pub note-requires : goal.note-requires
note-requires c =
    let a = taken _ _ c.requires.taken in
    let lt = a.good.left _ (has_get_or c.args.links.now c.loop-link.link-index no_link c.loop-link-test.true) in
    omega (arith, a.few)

pub loop-link-preserved : goal.loop-link-preserved
loop-link-preserved c =
    let has = has_get_or c.args.links.now c.loop-link.link-index no_link c.loop-link-test.true in
    let a = taken _ _ c.requires.taken in
    record {
      columns = c.loop-link.invariant.columns;
      long = length-set _ _ _ ∙ c.loop-link.invariant.long;
      entering = entering_more _ _ c.loop-link.self.rows c.loop-link.link-index _ c.note.new.row (omega (arith, a.few)) has a.good _ refl c.note.ensures.same c.note.ensures.other refl c.loop-link.invariant.entering;
    }

pub returns-clause-entered : goal.returns-clause-entered
returns-clause-entered c = entering_all _ _ _ c.loop-link.link-index c.loop-link-test.false c.loop-link.invariant.entering
