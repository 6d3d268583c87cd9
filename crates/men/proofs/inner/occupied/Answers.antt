-- `men::inner::occupied` meets its contract.
use Rattle.men.proofs.Having.{union_is}
use Rattle.men.proofs.inner.occupied.Goals as goal

pub returns : goal.returns
returns c = union_is c.args.pieces c.args.colors c.requires
