-- `retraction_gen::inner::is_barred` meets its contract.
use Rattle.retraction_gen.specs.Cursors.{barred}
use Rattle.squares.specs.Tests.{◌or◌}
use Rattle.retraction_gen.proofs.inner.is_barred.Goals as goal

pub returns : goal.returns
unfolding barred ◌or◌
returns c = rw (c.has.ensures, c.is_against.ensures)
