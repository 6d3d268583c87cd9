-- `sliding::inner::get_bishop_moves` meets its contract.
use Rattle.sliding.proofs.Seeing.{bishop_is}
use Rattle.sliding.proofs.inner.get_bishop_moves.Goals as goal

pub returns : goal.returns
returns c =
    rw (c.upright.ensures, c.upright-2.ensures, c.rising.ensures, c.falling.ensures) (bishop_is c.args.occ c.args.sq c.requires)
