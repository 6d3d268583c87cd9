-- `men::inner::stands` meets its contract.
use Rattle.men.proofs.Having.{stands_at}
use Rattle.men.proofs.inner.stands.Goals as goal

pub returns : goal.returns
returns c = rw (c.has.ensures, c.men_of.ensures) (stands_at c.args.pieces c.args.colors c.args.color c.args.kind c.args.sq)
