-- `accept::inner::refusals::bad_square` meets its contract.
use native.Mathlib.Omega.{arith}
use Rattle.squares.specs.Tests.{◌and◌}
use Rattle.laws.specs.Boards.{men_in}
use Rattle.accept.proofs.Judged.{square_is, square_above}
use Rattle.accept.proofs.inner.refusals.bad_square.Goals as goal

pub returns-then-sq-gt63 : goal.returns-then-sq-gt63
returns-then-sq-gt63 c = square_above c.args.p.terms.edition (men_in c.args.p) c.args.p.turn c.args.sq (omega arith)

pub returns : goal.returns
unfolding ◌and◌
returns c = rw (c.stepped_twice-stepped.ensures, c.is_noted-noted.ensures, c.other.ensures) (square_is c.args.p.terms.edition (men_in c.args.p) c.args.p.turn c.args.sq (omega arith))
