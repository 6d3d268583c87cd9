-- `history_reply::inner::put_if` meets its contract.
use Rattle.output.proofs.Adding.{adds_nothing}
use Rattle.history_reply.proofs.inner.put_if.Goals as goal

pub returns-then-there : goal.returns-then-there
returns-then-there c = rw c.if-there.true c.put_ply.ensures

pub returns : goal.returns
returns c = rw c.if-there.false (adds_nothing _ _)
