-- `officers::inner::quiet` meets its contract.
use Rattle.officers.specs.Officers.{quiet_of}
use Rattle.officers.proofs.inner.quiet.Goals as goal

pub returns : goal.returns
unfolding quiet_of
returns c = rw c.moves-m.ensures
