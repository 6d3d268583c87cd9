-- `back::inner::with_rights` meets its contract.
use Rattle.incremental.specs.Moved.{rights_stored}
use Rattle.back.proofs.inner.with_rights.Goals as goal

pub returns-in-White : goal.returns-in-White
unfolding rights_stored
returns-in-White c = rw c.in-White.is

pub returns-in-Black : goal.returns-in-Black
unfolding rights_stored
returns-in-Black c = rw c.in-Black.is
