-- `solution::inner::verdict` meets its contract.
use mathlib.Core.Path.{ap}
use mathlib.Core.Bool.{not}
use native.Mathlib.Omega.{arith}
use Rattle.laws.specs.Boards.{pos_at}
use Rattle.solution_lines.proofs.Cutting.{next_on}
use Rattle.solution_lines.proofs.Walking.{start}
use Rattle.solution.proofs.Marking.{seen_none}
use Rattle.solution.proofs.Judging.{tells_wrong, goes_on, tells_end}
use Rattle.solution.proofs.inner.verdict.Goals as goal

pub loop-at-init : goal.loop-at-init
loop-at-init c = (omega arith, omega arith, record { through = start _ _; seen = seen_none _ })

pub find-stop-requires : goal.find-stop-requires
find-stop-requires c = (omega arith, omega arith)

pub slice_bounds-read_line-count : goal.slice_bounds-read_line-count
slice_bounds-read_line-count c = omega (arith, c.find-stop.ensures.1)

pub slice_bounds-read_line-start : goal.slice_bounds-read_line-start
slice_bounds-read_line-start c = omega (arith, c.find-stop.ensures.1)

pub slice_bounds-read_line-end : goal.slice_bounds-read_line-end
slice_bounds-read_line-end c = omega (arith, c.find-stop.ensures.1, c.find-stop.ensures.2)

pub place_of-i-requires : goal.place_of-i-requires
place_of-i-requires c = c.read_line-r.ensures.1

pub is_right-requires : goal.is_right-requires
is_right-requires c =
    (c.requires.0, c.place_of-i.ensures.1)

pub returns-then-not-is_right : goal.returns-then-not-is_right
returns-then-not-is_right c =
    tells_wrong (pos_at c.args.p) c.args.lines.now c.loop-at.seen c.loop-at.at c.loop-at.n c.loop-at.invariant.2 c.requires.1 c.loop-at-test.true c.find-stop.result c.find-stop.ensures.0 c.read_line-r.result c.read_line-r.ensures c.place_of-i.result c.place_of-i.ensures.0 c.is_right.result c.is_right.ensures (ap not c.if-not-is_right.true)

pub mark-requires : goal.mark-requires
mark-requires c =
    (c.place_of-i.ensures.1, c.loop-at.invariant.2.seen.long)

pub past-at-requires : goal.past-at-requires
past-at-requires c = c.find-stop.ensures.2

pub loop-at-smaller : goal.loop-at-smaller
loop-at-smaller c =
    omega (arith, next_on c.args.lines.now c.loop-at.at c.loop-at-test.true c.find-stop.result c.find-stop.ensures.0 c.past-at.result c.past-at.ensures.0)

pub loop-at-preserved : goal.loop-at-preserved
loop-at-preserved c = (
  c.past-at.ensures.1,
  omega (arith, c.loop-at.invariant.1, next_on c.args.lines.now c.loop-at.at c.loop-at-test.true c.find-stop.result c.find-stop.ensures.0 c.past-at.result c.past-at.ensures.0),
  goes_on (pos_at c.args.p) c.args.lines.now c.loop-at.seen c.loop-at.at c.loop-at.n c.loop-at.invariant.2 c.requires.1 c.loop-at-test.true c.find-stop.result c.find-stop.ensures.0 c.read_line-r.result c.read_line-r.ensures c.place_of-i.result c.place_of-i.ensures.0 c.is_right.result c.is_right.ensures (ap not c.if-not-is_right.false) c.past-at.result c.past-at.ensures.0 _ c.mark.ensures,
)

pub missing-requires : goal.missing-requires
missing-requires c = c.requires.0

pub returns : goal.returns
returns c =
    tells_end (pos_at c.args.p) c.args.lines.now c.loop-at.seen c.loop-at.at c.loop-at.n c.loop-at.invariant.2 c.requires.1 c.loop-at.invariant.0 c.loop-at-test.false c.missing.result c.missing.ensures
