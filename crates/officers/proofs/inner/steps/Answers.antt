-- `officers::inner::steps` meets its contract.
use Rattle.officers.specs.Officers.{steps_of}
use Rattle.officers.proofs.inner.steps.Goals as goal

pub returns : goal.returns
unfolding steps_of
returns c = rw c.moves-m.ensures
