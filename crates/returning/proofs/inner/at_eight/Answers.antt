-- `returning::inner::at_eight` meets its contract.
use Rattle.returning.proofs.Allowed.{eight_back}
use Rattle.returning.proofs.inner.at_eight.Goals as goal

pub returns : goal.returns
returns c = rw (c.choose-queen.ensures, c.choose-rook.ensures, c.choose-bishop.ensures, c.choose-knight.ensures, c.number-queens.ensures, c.number-rooks.ensures, c.bishops_like-bishops.ensures, c.number-knights.ensures) (eight_back _ _ c.args.s c.requires.1 c.requires.2 c.requires.3)
