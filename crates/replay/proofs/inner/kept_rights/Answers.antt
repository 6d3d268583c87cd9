-- `replay::inner::kept_rights` meets its contract.
use Rattle.squares.specs.Tests.{◌and◌}
use Rattle.replay.proofs.inner.kept_rights.Goals as goal

pub returns : goal.returns
unfolding ◌and◌
returns c = rw (c.rights_for.ensures, c.has_right-short.ensures, c.has_right-long.ensures, c.keeps-a.ensures, c.keeps-b.ensures)
