-- `uncaptured::inner::kept` meets its contract.
use Rattle.squares.specs.Tests.{◌and◌}
use Rattle.uncaptured.specs.Masks.{kept_of}
use Rattle.uncaptured.proofs.inner.kept.Goals as goal

pub returns : goal.returns
unfolding kept_of ◌and◌
returns c = rw (c.choose.ensures, c.count-n.ensures)
