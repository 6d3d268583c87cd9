-- `souls::inner::dark_squares` meets its contract.
use mathlib.Core.Path.{refl}
use Rattle.squares.specs.Squares.{up_to}
use Rattle.souls.specs.Sets.{dark_squares}
use Rattle.souls.proofs.inner.dark_squares.Goals as goal

pub returns : goal.returns
unfolding dark_squares up_to
returns c = refl
