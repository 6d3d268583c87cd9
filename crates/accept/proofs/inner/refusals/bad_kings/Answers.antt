-- `accept::inner::refusals::bad_kings` meets its contract.
use Rattle.squares.specs.Tests.{◌or◌}
use Rattle.accept.proofs.Judged.{not_both}
use Rattle.accept.proofs.inner.refusals.bad_kings.Goals as goal

pub returns : goal.returns
unfolding ◌or◌
returns c = rw (c.number-w.ensures, c.number-b.ensures) (not_both _ _)
