-- `moves::inner::castles` meets its contract.
use Rattle.squares.specs.Tests.{◌and◌}
use Rattle.moves.proofs.inner.castles.Goals as goal

pub returns : goal.returns
unfolding ◌and◌
returns c = rw (c.is_free-path.ensures, c.has_right-held.ensures, c.king_home-king.ensures.0, c.rook_home-rook.ensures.0)
