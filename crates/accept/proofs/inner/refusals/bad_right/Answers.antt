-- `accept::inner::refusals::bad_right` meets its contract.
use Rattle.squares.specs.Tests.{◌and◌, ◌or◌}
use Rattle.accept.proofs.inner.refusals.bad_right.Goals as goal

pub returns : goal.returns
unfolding ◌and◌ ◌or◌
returns c = rw (c.stands-king.ensures, c.stands-rook.ensures, c.king_home.ensures.0, c.rook_home.ensures.0, c.has_right-held.ensures)
