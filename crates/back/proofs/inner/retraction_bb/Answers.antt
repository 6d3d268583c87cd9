-- `back::inner::retraction_bb` meets its contract.
use Rattle.back.proofs.inner.retraction_bb.Goals as goal

pub returns : goal.returns
returns c = rw (c.bit.ensures, c.bit-2.ensures)
