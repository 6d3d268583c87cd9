-- `steps::inner::forward` meets its contract.
use Rattle.steps.proofs.inner.forward.Goals as goal

pub returns-in-White : goal.returns-in-White
returns-in-White c = rw c.in-White.is c.up.ensures

pub returns-in-Black : goal.returns-in-Black
returns-in-Black c = rw c.in-Black.is c.down.ensures
