-- `moves::inner::goes` meets its contract.
use Rattle.moves.specs.inner.Parts.{goes_for, moves_for}
use Rattle.moves.proofs.inner.goes.Goals as goal

pub returns-in-Plain : goal.returns-in-Plain
unfolding goes_for moves_for
returns-in-Plain c = rw (c.in-Plain.is, ← c.requires.1.man_is) c.man_moves.ensures

pub returns-in-Passant : goal.returns-in-Passant
unfolding goes_for
returns-in-Passant c = rw c.in-Passant.is c.takes_passant.ensures

pub returns-in-Castle : goal.returns-in-Castle
unfolding goes_for
returns-in-Castle c = rw c.in-Castle.is c.castles.ensures
