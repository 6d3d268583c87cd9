-- `solution_lines::inner::letter_number` meets its contract.
use native.Mathlib.Omega.{arith}
use Rattle.solution_lines.specs.inner.Reading.{letter_number}
use Rattle.solution_lines.proofs.Inverse.{letter_none}
use Rattle.solution_lines.proofs.inner.letter_number.Goals as goal

pub returns-in-80 : goal.returns-in-80
unfolding letter_number
returns-in-80 c = (rw c.in-80.is, omega arith)

pub returns-in-78 : goal.returns-in-78
unfolding letter_number
returns-in-78 c = (rw c.in-78.is, omega arith)

pub returns-in-66 : goal.returns-in-66
unfolding letter_number
returns-in-66 c = (rw c.in-66.is, omega arith)

pub returns-in-82 : goal.returns-in-82
unfolding letter_number
returns-in-82 c = (rw c.in-82.is, omega arith)

pub returns-in-81 : goal.returns-in-81
unfolding letter_number
returns-in-81 c = (rw c.in-81.is, omega arith)

pub returns-in_default : goal.returns-in_default
returns-in_default c = (letter_none _ (λ e. omega arith) (λ e. omega arith) (λ e. omega arith) (λ e. omega arith) (λ e. omega arith), omega arith)
