-- `geometry::inner::home_square` meets its contract.
use mathlib.Core.Path.{refl}
use native.Mathlib.Omega.{arith}
use Rattle.geometry.proofs.inner.home_square.Goals as goal

pub returns-in-Black : goal.returns-in-Black
returns-in-Black c = rw c.in-Black.is (refl, omega arith)
