-- `uncaptured::inner::bishops` meets its contract.
use Rattle.uncaptured.specs.Masks.{bishops_of}
use Rattle.uncaptured.proofs.inner.bishops.Goals as goal

pub returns : goal.returns
unfolding bishops_of
returns c = rw (c.choose-b.ensures, c.choose-a.ensures, c.count-l.ensures, c.count-d.ensures, c.dark_squares-dark.ensures, c.light_squares-light.ensures)
