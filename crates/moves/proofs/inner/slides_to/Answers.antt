-- `moves::inner::slides_to` meets its contract.
use mathlib.Core.Path.{refl}
use Rattle.squares.specs.Tests.{◌and◌, ◌or◌}
use Rattle.moves.proofs.inner.slides_to.Goals as goal

pub returns : goal.returns
unfolding ◌and◌ ◌or◌
returns c = rw (c.on_line-on.ensures, c.is_free-path.ensures) refl
