-- `back::inner::stepped` meets its contract.
use Rattle.incremental.specs.Moved.{stepped_of}
use Rattle.back.proofs.inner.stepped.Goals as goal

pub returns-then-r : goal.returns-then-r
unfolding stepped_of
returns-then-r c = rw (c.xor.ensures, c.xor-b.ensures, c.bit.ensures, c.bit-then-r.ensures, c.if-r.true)

pub returns : goal.returns
unfolding stepped_of
returns c = rw (c.xor-2.ensures, c.retraction_bb.ensures, c.if-r.false)
