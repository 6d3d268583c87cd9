-- `position::inner::is_of` meets its contract.
use Rattle.squares.specs.Tests.{◌and◌}
use Rattle.position.proofs.Editing.{color_on}
use Rattle.position.proofs.inner.is_of.Goals as goal

pub returns : goal.returns
unfolding ◌and◌
returns c = rw c.color_place.ensures.0 (color_on c.args.x c.requires c.args.c)
