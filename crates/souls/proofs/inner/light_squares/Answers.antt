-- `souls::inner::light_squares` meets its contract.
use mathlib.Core.Path.{refl}
use Rattle.squares.specs.Squares.{up_to}
use Rattle.souls.specs.Sets.{light_squares}
use Rattle.souls.proofs.inner.light_squares.Goals as goal

pub returns : goal.returns
unfolding light_squares up_to
returns c = refl
