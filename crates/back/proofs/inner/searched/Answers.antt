-- `back::inner::searched` meets its contract.
use Rattle.incremental.specs.Found.{found_stored}
use Rattle.back.proofs.inner.searched.Goals as goal

pub returns : goal.returns
unfolding found_stored
returns c = rw (c.checkers.ensures, c.pins.ensures)
