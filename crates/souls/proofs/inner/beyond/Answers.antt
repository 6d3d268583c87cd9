-- `souls::inner::beyond` meets its contract.
use native.Mathlib.Omega.{arith}
use Rattle.squares.specs.Squares.{has}
use Rattle.squares.proofs.Counting.{count_le}
use Rattle.souls.proofs.inner.beyond.Goals as goal

pub returns-then-n-m : goal.returns-then-n-m
returns-then-n-m c = (rw c.count-n.ensures, omega (arith, c.count-n.ensures, count_le 64 (has c.args.s)))
