-- `rows::inner::uncaptured_letter` meets its contract.
use native.Mathlib.Omega.{arith}
use Rattle.rows.specs.Rows.{uncaptured_letter}
use Rattle.rows.proofs.Rows.{letter_none}
use Rattle.rows.proofs.inner.uncaptured_letter.Goals as goal

pub returns-in-1 : goal.returns-in-1
unfolding uncaptured_letter
returns-in-1 c = rw c.in-1.is

pub returns-in-2 : goal.returns-in-2
unfolding uncaptured_letter
returns-in-2 c = rw c.in-2.is

pub returns-in-3 : goal.returns-in-3
unfolding uncaptured_letter
returns-in-3 c = rw c.in-3.is

pub returns-in-4 : goal.returns-in-4
unfolding uncaptured_letter
returns-in-4 c = rw c.in-4.is

pub returns-in-5 : goal.returns-in-5
unfolding uncaptured_letter
returns-in-5 c = rw c.in-5.is

pub returns-in_default : goal.returns-in_default
returns-in_default c = letter_none _ (λ e. omega arith) (λ e. omega arith) (λ e. omega arith) (λ e. omega arith) (λ e. omega arith)
