-- `uncaptured::inner::candidates` meets its contract.
use Rattle.uncaptured.specs.Masks.{masks_of}
use Rattle.uncaptured.proofs.inner.candidates.Goals as goal

pub returns : goal.returns
unfolding masks_of
returns c = rw (c.masks_for.ensures, c.among-f.ensures, c.color_set-side.ensures)
