-- `laws::inner::uncertain_of` meets its contract.
use mathlib.Core.Path.{refl}
use Rattle.laws.proofs.inner.uncertain_of.Goals as goal

pub returns-in-Any : goal.returns-in-Any
returns-in-Any c = rw c.in-Any.is refl

pub returns-in-Some : goal.returns-in-Some
returns-in-Some c = rw c.in-Some.is
