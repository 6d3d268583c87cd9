-- `squares::has` meets its contract.
use mathlib.Core.Path.{sym}
use borrow.Author.Rules.{rules}
use Rattle.squares.specs.Squares.{has}
use Rattle.squares.proofs.Digits.{has_above}
use Rattle.squares.proofs.has.Goals as goal

pub returns-then-k-lt64 : goal.returns-then-k-lt64
unfolding has
returns-then-k-lt64 c = search rules

pub returns-else-k-lt64 : goal.returns-else-k-lt64
returns-else-k-lt64 c = sym (has_above c.args.k c.ranges.s.fits c.if-k-lt64.false)
