-- `strict_search::inner::places::jump` meets its contract.
use Rattle.strict_search.proofs.Jumping.{jumped, ended}
use Rattle.strict_search.proofs.inner.places.jump.Goals as goal

pub returns-then-q-n-lt63 : goal.returns-then-q-n-lt63
returns-then-q-n-lt63 c = jumped c.args.set c.args.i _ c.ranges.set.fits c.requires c.lowest-n.ensures c.if-q-n-lt63.true

pub returns : goal.returns
returns c = ended c.args.set c.args.i _ c.ranges.set.fits c.requires c.lowest-n.ensures c.if-q-n-lt63.false
