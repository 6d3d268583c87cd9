-- `unmake::inner::back::regains` meets its contract.
use Rattle.squares.specs.Tests.{◌and◌, ◌or◌}
use Rattle.unmake.proofs.inner.back.regains.Goals as goal

pub returns-in-Plain : goal.returns-in-Plain
returns-in-Plain c = rw c.in-Plain.is c.has_right-held.ensures

pub returns-in-Passant : goal.returns-in-Passant
returns-in-Passant c = rw c.in-Passant.is c.has_right-held.ensures

pub returns-in-Castle : goal.returns-in-Castle
unfolding ◌and◌ ◌or◌
returns-in-Castle c = rw (c.in-Castle.is, c.has_right-held.ensures, c.color_place.ensures.0, c.color_place-2.ensures.0, c.same_side.ensures)
