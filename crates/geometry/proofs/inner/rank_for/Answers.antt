-- `geometry::inner::rank_for` meets its contract.
use Rattle.geometry.proofs.inner.rank_for.Goals as goal

pub returns-in-White : goal.returns-in-White
returns-in-White c = rw c.in-White.is

pub returns-in-Black : goal.returns-in-Black
returns-in-Black c = rw c.in-Black.is
