use Rattle.std.proofs.Common.{◌≡◌, length, sym, refl, ap, ◌∙◌, arith}
use Rattle.std.proofs.lemmas.Int.{ints, clamps}
use Rattle.rules.specs.Plans.{window_at}
use Rattle.rules.proofs.Windows.{Ends, lawful_at, lawful_ends}
use Rattle.differences.specs.Ends.{first_at, last_at, first_left, last_left}
use Rattle.differences.proofs.Cutting.{cut_empty}
use Rattle.differences.proofs.Leaving.{first_more, last_more}
use Rattle.differences.proofs.trim.cut.Goals as goal

pub overflow_sub-window : goal.overflow_sub-window
overflow_sub-window g c =
    let j = c.loop-j.j in
    let ws = c.args.windows.now in
    let ends : Ends (window_at ws j) = lawful_ends (window_at ws j) (lawful_at ws j c.requires.lawful c.loop-j-test.true) in
    omega (arith, ints, ends.low, ends.high, ends.order, c.requires.closed.near c.args.i j c.requires.there c.loop-j-test.true, c.between.ensures)

pub overflow_add-window : goal.overflow_add-window
overflow_add-window g c =
    let j = c.loop-j.j in
    let ws = c.args.windows.now in
    let ends : Ends (window_at ws j) = lawful_ends (window_at ws j) (lawful_at ws j c.requires.lawful c.loop-j-test.true) in
    omega (arith, ints, ends.low, ends.high, ends.order, c.requires.closed.near j c.args.i c.loop-j-test.true c.requires.there, c.between-in-loop-j.ensures)

pub loop-j-preserved : goal.loop-j-preserved
loop-j-preserved g c =
    let i = c.args.i in
    let j = c.loop-j.j in
    let ws = c.args.windows.now in
    let d = g.D.Distance.distance c.args.distances.now in
    let ends : Ends (window_at ws j) = lawful_ends (window_at ws j) (lawful_at ws j c.requires.lawful c.loop-j-test.true) in (
      omega (
        arith,
        ints,
        clamps,
        first_more d (first_at ws) i j,
        c.max-first.ensures.value,
        c.loop-j.invariant.0,
        c.between.ensures,
        ends.low,
        ends.high,
        ends.order,
        c.requires.closed.near i j c.requires.there c.loop-j-test.true,
      ),
      omega (
        arith,
        ints,
        clamps,
        last_more d (last_at ws) i j,
        c.min-last.ensures.value,
        c.loop-j.invariant.1,
        c.between-in-loop-j.ensures,
        ends.low,
        ends.high,
        ends.order,
        c.requires.closed.near j i c.loop-j-test.true c.requires.there,
      ),
    )

pub returns-then-first-last : goal.returns-then-first-last
returns-then-first-last g c =
    let ws = c.args.windows.now in
    let d = g.D.Distance.distance c.args.distances.now in
    let l = c.loop-j in
    let all : l.j ≡ length ws = omega (arith, c.loop-j-test.false, l.auto.j-end) in
    cut_empty (length ws) d ws c.args.i (record { first = l.first; last = l.last }) refl c.requires.there
    (record {
      first = sym l.first-is ∙ l.invariant.0 ∙ ap (first_left d (first_at ws) c.args.i) all;
      last = sym l.last-is ∙ l.invariant.1 ∙ ap (last_left d (last_at ws) c.args.i) all;
    })
    (omega (arith, ints, c.if-first-last.true, l.first-is, l.last-is))

pub returns : goal.returns
returns g c =
    let ws = c.args.windows.now in
    let d = g.D.Distance.distance c.args.distances.now in
    let l = c.loop-j in
    let all : l.j ≡ length ws = omega (arith, c.loop-j-test.false, l.auto.j-end) in (
      record {
        first = l.invariant.0 ∙ ap (first_left d (first_at ws) c.args.i) all;
        last = l.invariant.1 ∙ ap (last_left d (last_at ws) c.args.i) all;
      },
      omega (arith, ints, c.if-first-last.false),
    )
