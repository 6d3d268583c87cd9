-- `squares::get_rank` meets its contract.
use native.Mathlib.Omega.{arith}
use lib.Dec.{eqb}
use borrow.Author.Tests.{ne_eqb}
use Rattle.squares.specs.Squares.{rank}
use Rattle.squares.proofs.Shifts.{rank_mask}
use Rattle.squares.proofs.Comprehension.{set_of_none}
use Rattle.squares.proofs.get_rank.Goals as goal

pub returns-then-r-lt8 : goal.returns-then-r-lt8
returns-then-r-lt8 c = rank_mask c.args.r c.if-r-lt8.true

pub returns-else-r-lt8 : goal.returns-else-r-lt8
returns-else-r-lt8 c = set_of_none (λ k. eqb (rank k) c.args.r) (λ k l. ne_eqb (rank k) c.args.r (λ e. omega arith))
