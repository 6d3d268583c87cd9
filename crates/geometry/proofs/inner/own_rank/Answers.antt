-- `geometry::inner::own_rank` meets its contract.
use Rattle.geometry.proofs.inner.own_rank.Goals as goal

pub returns-in-Black : goal.returns-in-Black
returns-in-Black c = rw c.in-Black.is
