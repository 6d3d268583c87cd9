-- `strict_search::inner::places::doubled` meets its contract.
use Rattle.strict_search.proofs.Twelve.{twice_is}
use Rattle.strict_search.proofs.inner.places.doubled.Goals as goal

pub returns : goal.returns
returns c = twice_is c.args.men c.requires
