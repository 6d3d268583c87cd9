-- `rows::inner::mark_all` meets its contract.
use mathlib.Core.Path.{◌∙◌}
use native.Mathlib.Omega.{arith}
use Rattle.rows.proofs.Marking.{marking_none, marking_next, marking_all}
use Rattle.rows.proofs.inner.mark_all.Goals as goal

pub loop-slot-init : goal.loop-slot-init
loop-slot-init c = (marking_none _ _ c.requires, c.requires.long)

pub loop-slot-preserved : goal.loop-slot-preserved
loop-slot-preserved c = (marking_next _ _ _ c.loop-slot.slot-index (omega arith) c.loop-slot.invariant.0 c.mark_slot.ensures, c.mark_slot.ensures.long ∙ c.loop-slot.invariant.1)

pub returns : goal.returns
returns c = marking_all _ _ c.loop-slot.slot-index (omega arith) (omega arith) c.loop-slot.invariant.0 c.loop-slot.invariant.1
