-- `view::inner::among` meets its contract.
use mathlib.Core.Path.{refl}
use Rattle.view.specs.Views.{within}
use Rattle.view.proofs.inner.among.Goals as goal

pub returns : goal.returns
unfolding within
returns c = refl
