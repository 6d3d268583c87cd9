-- `unmake::inner::holds_at` meets its contract.
use Rattle.squares.specs.Tests.{◌and◌, ◌or◌}
use Rattle.unmake.proofs.inner.holds_at.Goals as goal

pub returns : goal.returns
unfolding ◌and◌ ◌or◌
returns c = rw (c.has_right-held.ensures, c.king_home-king.ensures.0, c.rook_home-rook.ensures.0)
