-- `moves::inner::way_of` meets its contract.
use Rattle.moves.proofs.Steps.{way_is}
use Rattle.moves.proofs.inner.way_of.Goals as goal

pub returns : goal.returns
returns c = rw (c.way_by.ensures, c.king_home.ensures.0, c.king_to.ensures.0, c.king_to-2.ensures.0, c.color_of-c.ensures) (way_is c.args.x c.args.from c.args.to c.args.u c.requires)
