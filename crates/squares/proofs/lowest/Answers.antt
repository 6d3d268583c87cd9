-- `squares::lowest` meets its contract.
use native.Mathlib.Omega.{arith}
use lib.Count.{trailing_le}
use Rattle.squares.proofs.LeastMember.{least_or_64}
use Rattle.squares.proofs.Members.{lowest_is}
use Rattle.squares.proofs.lowest.Goals as goal

pub overflow_cast-result : goal.overflow_cast-result
overflow_cast-result c = omega (arith, trailing_le 64 c.args.s)

pub returns : goal.returns
returns c = lowest_is c.args.s _ (least_or_64 c.args.s c.ranges.s.fits)
