-- `retraction_gen::inner::seen` meets its contract.
use Rattle.retraction_gen.proofs.inner.seen.Goals as goal

pub returns : goal.returns
returns c = rw (c.look.ensures, c.position_of.ensures)
