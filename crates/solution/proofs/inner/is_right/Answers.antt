-- `solution::inner::is_right` meets its contract.
use mathlib.Core.Path.{ap₂}
use mathlib.Core.Bool.{Bool, not}
use Rattle.squares.specs.Tests.{◌and◌}
use Rattle.solution.proofs.inner.is_right.Goals as goal

pub returns : goal.returns
unfolding ◌and◌
returns c = ap₂ (λ (a b : Bool). a and not b) c.is_strict-strict.ensures c.is_marked-said.ensures
