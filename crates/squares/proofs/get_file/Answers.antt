-- `squares::get_file` meets its contract.
use native.Mathlib.Omega.{arith}
use lib.Dec.{eqb}
use borrow.Author.Tests.{ne_eqb}
use Rattle.squares.specs.Squares.{file}
use Rattle.squares.proofs.Shifts.{file_mask}
use Rattle.squares.proofs.Comprehension.{set_of_none}
use Rattle.squares.proofs.get_file.Goals as goal

pub returns-then-f-lt8 : goal.returns-then-f-lt8
returns-then-f-lt8 c = file_mask c.args.f c.if-f-lt8.true

pub returns-else-f-lt8 : goal.returns-else-f-lt8
returns-else-f-lt8 c = set_of_none (λ k. eqb (file k) c.args.f) (λ k l. ne_eqb (file k) c.args.f (λ e. omega arith))
