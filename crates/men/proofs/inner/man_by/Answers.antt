-- `men::inner::man_by` meets its contract.
use native.Mathlib.Omega.{arith}
use Rattle.men.proofs.inner.man_by.Goals as goal

pub returns-then-white : goal.returns-then-white
returns-then-white c = (rw c.if-white.true, omega arith)

pub returns-then-black : goal.returns-then-black
returns-then-black c = (rw (c.if-white.false, c.if-black.true), omega arith)
