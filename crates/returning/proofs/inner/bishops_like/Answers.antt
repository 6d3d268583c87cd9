-- `returning::inner::bishops_like` meets its contract.
use Rattle.returning.proofs.Shades.{bishops_like_is}
use Rattle.returning.proofs.inner.bishops_like.Goals as goal

pub returns : goal.returns
returns c = rw (c.count.ensures, c.shade.ensures, c.men_of-bishops.ensures) (bishops_like_is _ _ c.args.s)
