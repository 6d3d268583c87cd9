-- `kings::inner::short` meets its contract.
use Rattle.squares.specs.Tests.{◌and◌}
use Rattle.kings.specs.Kings.{short_of}
use Rattle.kings.proofs.inner.short.Goals as goal

pub returns : goal.returns
unfolding short_of ◌and◌
returns c = rw (c.castled-free.ensures, c.rook_home-corner.ensures.0, c.king_home-e.ensures.0, c.rook_to-rook.ensures.0, c.king_to-king.ensures.0)
