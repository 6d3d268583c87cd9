-- `solution::inner::marks::mark` meets its contract.
use native.Mathlib.Omega.{arith}
use Rattle.rows.proofs.Marking.{mark_is}
use Rattle.solution.proofs.inner.marks.mark.Goals as goal

pub returns : goal.returns
returns c = mark_is c.args.seen.now c.args.i _ (omega arith) c.bit.ensures
