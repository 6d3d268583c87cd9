-- `squares::bit` meets its contract.
use mathlib.Core.Path.{sym, ◌∙◌}
use native.Mathlib.Omega.{arith}
use lib.Dec.{eqb}
use borrow.Author.Tests.{ne_eqb}
use Rattle.squares.proofs.Digits.{one_shl}
use Rattle.squares.proofs.Comprehension.{only_is, set_of_none}
use Rattle.squares.proofs.bit.Goals as goal

pub returns-then-k-lt64 : goal.returns-then-k-lt64
returns-then-k-lt64 c = one_shl c.if-k-lt64.true ∙ sym (only_is c.if-k-lt64.true)

pub returns-else-k-lt64 : goal.returns-else-k-lt64
returns-else-k-lt64 c = set_of_none (λ j. eqb j c.args.k) (λ j l. ne_eqb j c.args.k (λ e. omega arith))
