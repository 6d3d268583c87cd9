-- `limited::flip` meets its contract.
use Rattle.limited.proofs.flip.Goals as goal

pub returns : goal.returns
returns c = rw c.other.ensures
