-- `souls::inner::souls_of` meets its contract.
use native.Mathlib.Omega.{arith}
use lib.ListN.{get_or}
use Rattle.squares.specs.Squares.{has}
use Rattle.souls.specs.Sets.{souls_of}
use Rattle.squares.proofs.Counting.{count_le}
use Rattle.souls.proofs.inner.souls_of.Goals as goal

pub overflow_add-result-5 : goal.overflow_add-result-5
overflow_add-result-5 c = omega (arith, c.count-pawns.ensures, count_le 64 (has (get_or c.args.f 0 0)))

pub returns : goal.returns
unfolding souls_of
returns c = rw (c.beyond-queens.ensures.0, c.beyond-rooks.ensures.0, c.beyond-shady.ensures.0, c.beyond-bright.ensures.0, c.beyond-knights.ensures.0, c.count-pawns.ensures, c.dark_squares-dark.ensures, c.light_squares-light.ensures)
