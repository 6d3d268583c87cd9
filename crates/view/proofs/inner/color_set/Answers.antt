-- `view::inner::color_set` meets its contract.
use Rattle.view.proofs.inner.color_set.Goals as goal

pub returns-in-White : goal.returns-in-White
returns-in-White c = rw c.in-White.is

pub returns-in-Black : goal.returns-in-Black
returns-in-Black c = rw c.in-Black.is
