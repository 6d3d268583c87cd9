-- `attacks::inner::met` meets its contract.
use mathlib.Core.Path.{refl}
use Rattle.attacks.specs.inner.Meeting.{met_of}
use Rattle.attacks.proofs.inner.met.Goals as goal

pub returns : goal.returns
unfolding met_of
returns c = refl
