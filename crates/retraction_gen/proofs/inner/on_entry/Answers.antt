-- `retraction_gen::inner::on_entry` meets its contract.
use mathlib.Core.Path.{refl}
use Rattle.retraction_gen.specs.Cursors.{on_entry}
use Rattle.squares.specs.Tests.{◌and◌}
use Rattle.retraction_gen.proofs.inner.on_entry.Goals as goal

pub returns : goal.returns
unfolding on_entry ◌and◌
returns c = refl
