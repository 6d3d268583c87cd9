-- `double_step::inner::could_step` meets its contract.
use Rattle.double_step.specs.inner.Parts.{step_for}
use borrow.Author.Rules.{rules}
use Rattle.double_step.proofs.inner.could_step.Goals as goal

pub waited_unattacked-requires : goal.waited_unattacked-requires
waited_unattacked-requires c = (c.requires.0, c.requires.1, rw c.in-Some.is at c.requires.2)

pub returns-in-Any : goal.returns-in-Any
unfolding step_for
returns-in-Any c = search rules

pub returns-in-Some : goal.returns-in-Some
returns-in-Some c = rw c.in-Some.is c.waited_unattacked.ensures

pub returns-in-None : goal.returns-in-None
unfolding step_for
returns-in-None c = search rules
