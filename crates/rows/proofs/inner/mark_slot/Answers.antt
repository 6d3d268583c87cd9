-- `rows::inner::mark_slot` meets its contract.
use native.Mathlib.Omega.{arith}
use Rattle.rows.proofs.Marking.{mark_is}
use Rattle.rows.proofs.inner.mark_slot.Goals as goal

pub returns : goal.returns
returns c = mark_is c.args.set.now c.args.slot _ (omega arith) c.bit.ensures
