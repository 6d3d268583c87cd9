-- `board::inner::stale` meets its contract.
use Rattle.squares.specs.Tests.{◌and◌}
use Rattle.board.specs.Gate.{fresh_on}
use Rattle.board.proofs.inner.stale.Goals as goal

pub returns : goal.returns
unfolding fresh_on ◌and◌
returns c = rw (c.occupied-men.ensures, c.checkers-checks.ensures, c.pins-pins.ensures)
