-- `retraction_gen::inner::spend` meets its contract.
use Rattle.retraction_gen.specs.Cursors.{spent}
use Rattle.retraction_gen.proofs.inner.spend.Goals as goal

pub returns : goal.returns
unfolding spent
returns c = rw (c.without-rest.ensures, c.lowest.ensures)
