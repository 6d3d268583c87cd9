-- `unmake::inner::is_held` meets its contract.
use Rattle.squares.specs.Tests.{◌or◌}
use Rattle.unmake.specs.Retracted.{held_for}
use Rattle.unmake.proofs.inner.is_held.Goals as goal

pub returns : goal.returns
unfolding held_for ◌or◌
returns c = rw (c.holds_at-short.ensures, c.holds_at-long.ensures, c.other-c.ensures)
