-- `moves::inner::is_named` meets its contract.
use mathlib.Core.Path.{refl}
use Rattle.moves.proofs.inner.is_named.Goals as goal

pub returns-in-Any : goal.returns-in-Any
returns-in-Any c = rw c.in-Any.is refl

pub returns-in-Some : goal.returns-in-Some
returns-in-Some c = rw c.in-Some.is
