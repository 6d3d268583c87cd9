-- `replay::inner::keeps` meets its contract.
use Rattle.squares.specs.Tests.{◌and◌}
use Rattle.replay.specs.inner.Parts.{keeps_for}
use Rattle.replay.proofs.inner.keeps.Goals as goal

pub returns : goal.returns
unfolding keeps_for ◌and◌
returns c = rw (c.king_home-home.ensures.0, c.rook_home-corner.ensures.0)
