-- `men::inner::next_to` meets its contract.
use Rattle.men.proofs.Beside.{next_is}
use Rattle.men.proofs.inner.next_to.Goals as goal

pub returns : goal.returns
returns c = rw (c.left.ensures, c.right.ensures, c.bit-b.ensures) (next_is c.args.sq c.requires)
