-- `words::inner::is_passant` meets its contract.
use mathlib.Core.Path.{refl}
use Rattle.squares.specs.Tests.{◌and◌}
use Rattle.words.specs.Words.{passes}
use Rattle.words.proofs.inner.is_passant.Goals as goal

pub returns : goal.returns
unfolding ◌and◌ passes
returns c = refl
