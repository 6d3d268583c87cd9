-- `pawns::inner::legals` meets its contract.
use Rattle.pawns.specs.Pawns.{pawn_of}
use Rattle.retraction_list.proofs.Pushing.{pushed_both}
use Rattle.pawns.proofs.inner.legals.Goals as goal

pub returns : goal.returns
unfolding pawn_of
returns c = rw (c.un_en_passants.ensures, c.steps-one.ensures) (pushed_both _ _ _)
