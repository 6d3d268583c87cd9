-- `squares::left` meets its contract.
use mathlib.Core.Path.{refl}
use Rattle.squares.specs.Tests.{◌and◌}
use Rattle.squares.specs.Squares.{has, all_to}
use Rattle.squares.proofs.Shifts.{left_is}
use Rattle.squares.proofs.left.Goals as goal

pub returns : goal.returns
unfolding all_to has ◌and◌
returns c = left_is c.args.s c.ranges.s.fits _ refl
