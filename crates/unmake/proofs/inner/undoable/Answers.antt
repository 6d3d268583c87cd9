-- `unmake::inner::undoable` meets its contract.
use Rattle.unmake.specs.inner.Parts.{undoable_for}
use Rattle.unmake.proofs.inner.undoable.Goals as goal

pub returns-in-Plain : goal.returns-in-Plain
unfolding undoable_for
returns-in-Plain c = rw c.in-Plain.is

pub returns-in-Passant : goal.returns-in-Passant
returns-in-Passant c = rw c.in-Passant.is c.crossed.ensures

pub returns-in-Castle : goal.returns-in-Castle
unfolding undoable_for
returns-in-Castle c = rw c.in-Castle.is c.castled.ensures
