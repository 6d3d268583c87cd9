-- `view::inner::to_square` meets its contract.
use native.Mathlib.Omega.{arith}
use Rattle.squares.specs.Members.{first_of}
use Rattle.view.proofs.inner.to_square.Goals as goal

pub returns : goal.returns
unfolding first_of
returns c = (rw c.lowest.ensures, omega arith)
