-- `words::inner::put_side` meets its contract.
use Rattle.words.specs.Words.{bytes_in}
use Rattle.words.proofs.inner.put_side.Goals as goal

pub returns-in-White : goal.returns-in-White
unfolding bytes_in
returns-in-White c = rw c.in-White.is c.put.ensures

pub returns-in-Black : goal.returns-in-Black
unfolding bytes_in
returns-in-Black c = rw c.in-Black.is c.put-in-Black.ensures
