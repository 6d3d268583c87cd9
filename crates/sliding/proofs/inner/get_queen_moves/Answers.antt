-- `sliding::inner::get_queen_moves` meets its contract.
use Rattle.sliding.proofs.Seeing.{queen_is}
use Rattle.sliding.proofs.inner.get_queen_moves.Goals as goal

pub returns : goal.returns
returns c = rw (c.get_rook_moves.ensures, c.get_bishop_moves.ensures) (queen_is c.args.occ c.args.sq)
