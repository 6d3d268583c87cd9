-- `uncaptured::inner::pawn_squares` meets its contract.
use mathlib.Core.Path.{refl}
use Rattle.squares.specs.Squares.{up_to}
use Rattle.uncaptured.specs.Masks.{pawn_squares}
use Rattle.uncaptured.proofs.inner.pawn_squares.Goals as goal

pub returns : goal.returns
unfolding pawn_squares up_to
returns c = refl
