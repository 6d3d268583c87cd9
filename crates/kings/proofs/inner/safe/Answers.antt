-- `kings::inner::safe` meets its contract.
use Rattle.squares.specs.Tests.{◌and◌}
use Rattle.kings.specs.Kings.{safe_of}
use Rattle.kings.proofs.inner.safe.Goals as goal

pub returns : goal.returns
unfolding safe_of ◌and◌
returns c = rw (c.is_attacked-b.ensures, c.is_attacked-a.ensures)
