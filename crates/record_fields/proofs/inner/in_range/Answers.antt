-- `record_fields::inner::in_range` meets its contract.
use mathlib.Core.Path.{refl}
use Rattle.squares.specs.Tests.{◌and◌}
use Rattle.record_fields.proofs.inner.in_range.Goals as goal

pub returns : goal.returns
unfolding ◌and◌
returns c = refl
