-- `back::inner::moved` meets its contract.
use Rattle.incremental.specs.Moved.{rust_moved}
use Rattle.back.proofs.inner.moved.Goals as goal

pub returns : goal.returns
unfolding rust_moved
returns c = rw (c.reborn.ensures, c.uncastled-b.ensures, c.uncaptured-b.ensures, c.stepped-b.ensures, c.opened-b.ensures, c.bit.ensures, c.piece_at-piece.ensures, c.other-color.ensures)
