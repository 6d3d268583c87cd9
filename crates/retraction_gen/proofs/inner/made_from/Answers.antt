-- `retraction_gen::inner::made_from` meets its contract.
use mathlib.Core.Path.{sym}
use Rattle.retraction_gen.specs.Making.{masks_on, cursor_on}
use Rattle.retraction_gen.proofs.Filled.{held_is, full_fails, held_passes}
use Rattle.retraction_gen.proofs.inner.made_from.Goals as goal

pub returns-then-list : goal.returns-then-list
returns-then-list c = record { number = full_fails _ _ c.entries-list.ensures c.if-list.true; cursor = tt }

pub returns : goal.returns
unfolding cursor_on masks_on
returns c =
    let e = c.entries-list.ensures in
    let f = c.if-list.false in
    record { number = sym (held_passes _ _ e f); cursor = rw (c.started.ensures, c.candidates-masks.ensures, c.position_of.ensures, held_is _ _ e f) }
