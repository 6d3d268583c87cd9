-- `back::inner::opened` meets its contract.
use Rattle.incremental.specs.Moved.{opened_of}
use Rattle.back.proofs.inner.opened.Goals as goal

pub returns : goal.returns
unfolding opened_of
returns c = rw c.other-turn.ensures
