-- `pawns::inner::steps` meets its contract.
use Rattle.pawns.specs.Pawns.{steps_of}
use Rattle.pawns.proofs.inner.steps.Goals as goal

pub returns : goal.returns
unfolding steps_of
returns c = rw (c.each.ensures, c.candidate_retractors-set.ensures)
