-- `uncaptured::inner::masks_at` meets its contract.
use Rattle.uncaptured.specs.Masks.{masks_at}
use Rattle.uncaptured.proofs.inner.masks_at.Goals as goal

pub returns : goal.returns
unfolding masks_at
returns c = rw (c.kept-queens.ensures, c.kept-rooks.ensures, c.choose-either.ensures, c.bishops-some.ensures, c.kept-knights.ensures, c.choose-pawns.ensures, c.pawn_squares-home.ensures)
