-- `pawns::inner::uncapture` meets its contract.
use Rattle.pawns.specs.Pawns.{uncapture_of}
use Rattle.pawns.proofs.inner.uncapture.Goals as goal

pub returns : goal.returns
unfolding uncapture_of
returns c = rw (c.home-free.ensures, c.get_pawn_attacks-to.ensures, c.other-other.ensures)
