-- `solution_lines::form_of` meets its contract.
use mathlib.Core.Bool.{not}
use mathlib.Core.Path.{ap}
use Prim.Native.Nat.{◌<◌}
use native.Mathlib.Omega.{arith}
use lib.ListN.{length}
use Rattle.solution_lines.proofs.Forms.{tells_line, goes_on, tells_all}
use Rattle.solution_lines.proofs.form_of.Goals as goal

pub returns-then-at-lines : goal.returns-then-at-lines
returns-then-at-lines c = tells_all c.args.lines.now c.loop-n.at c.loop-n.n c.loop-n.invariant.1 c.loop-n.invariant.0 (omega arith) (omega arith)

pub returns-then-not-is_formed : goal.returns-then-not-is_formed
returns-then-not-is_formed c =
    let l : c.loop-n.at < length c.args.lines.now = omega arith in
    tells_line c.args.lines.now c.loop-n.at c.loop-n.n c.loop-n.invariant.1 l c.find-stop.result c.find-stop.ensures.0 c.is_formed.result c.is_formed.ensures (ap not c.if-not-is_formed.true) (omega arith)

pub loop-n-preserved : goal.loop-n-preserved
loop-n-preserved c =
    let l : c.loop-n.at < length c.args.lines.now = omega arith in (
      c.past-at.ensures.1,
      goes_on c.args.lines.now c.loop-n.at c.loop-n.n c.loop-n.invariant.1 l c.find-stop.result c.find-stop.ensures.0 c.is_formed.result c.is_formed.ensures (ap not c.if-not-is_formed.false) c.past-at.result c.past-at.ensures.0,
    )
