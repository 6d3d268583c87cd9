-- `laws::inner::castling::has_right` meets its contract.
use Rattle.laws.proofs.inner.castling.has_right.Goals as goal

pub returns-in-White : goal.returns-in-White
returns-in-White c = rw c.in-White.is c.holds.ensures

pub returns-in-Black : goal.returns-in-Black
returns-in-Black c = rw c.in-Black.is c.holds-in-Black.ensures
