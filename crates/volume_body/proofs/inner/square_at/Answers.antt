-- `volume_body::inner::square_at` meets its contract.
use mathlib.Core.Path.{refl}
use Rattle.volume_body.specs.Layout.{square_at}
use Rattle.volume_body.proofs.inner.square_at.Goals as goal

pub returns : goal.returns
unfolding square_at
returns c = refl
