-- `position::inner::refuse` meets its contract.
use Rattle.position.proofs.inner.refuse.Goals as goal

pub returns : goal.returns
returns c = rw c.nothing-position.ensures
