-- `words::inner::put_verdict` meets its contract.
use Rattle.words.specs.Words.{bytes_in}
use Rattle.words.proofs.inner.put_verdict.Goals as goal

pub returns-then-strict : goal.returns-then-strict
unfolding bytes_in
returns-then-strict c = rw c.if-strict.true c.put.ensures

pub returns : goal.returns
unfolding bytes_in
returns c = rw c.if-strict.false c.put-2.ensures
