-- `words::inner::is_castling` meets its contract.
use Rattle.squares.specs.Tests.{◌and◌}
use Rattle.words.specs.Words.{castles}
use Rattle.words.proofs.inner.is_castling.Goals as goal

pub returns : goal.returns
unfolding ◌and◌ castles
returns c = rw c.files_apart.ensures
