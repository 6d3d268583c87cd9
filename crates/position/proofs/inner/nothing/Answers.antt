-- `position::inner::nothing` meets its contract.
use Rattle.position.specs.Answers.{no_position}
use Rattle.position.proofs.inner.nothing.Goals as goal

pub returns : goal.returns
unfolding no_position
returns c = rw c.terms_of-terms.ensures
