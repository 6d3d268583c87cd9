-- `men::inner::is_empty` meets its contract.
use Rattle.men.proofs.Having.{empty_at}
use Rattle.men.proofs.inner.is_empty.Goals as goal

pub returns : goal.returns
returns c = rw (c.has.ensures, c.occupied.ensures) (empty_at c.args.pieces c.args.colors c.args.sq)
