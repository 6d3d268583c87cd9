-- `kings::inner::castled` meets its contract.
use Rattle.squares.specs.Tests.{◌and◌, ◌or◌}
use Rattle.kings.specs.Kings.{castled_of}
use Rattle.kings.proofs.inner.castled.Goals as goal

pub returns : goal.returns
unfolding castled_of ◌and◌ ◌or◌
returns c = rw (c.has-checks.ensures, c.has-sees.ensures, c.get_rook_moves-rays.ensures, c.safe-calm.ensures, c.has-taken.ensures, c.has-home.ensures, c.has-stands.ensures)
