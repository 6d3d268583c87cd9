-- `kings::inner::long` meets its contract.
use Rattle.squares.specs.Tests.{◌and◌}
use Rattle.kings.specs.Kings.{long_of}
use Rattle.kings.proofs.inner.long.Goals as goal

pub returns : goal.returns
unfolding long_of ◌and◌
returns c = rw (c.castled-free.ensures, c.has-blocked.ensures, c.rook_home-corner.ensures.0, c.home_square-b.ensures.0, c.king_home-e.ensures.0, c.rook_to-rook.ensures.0, c.king_to-king.ensures.0)
