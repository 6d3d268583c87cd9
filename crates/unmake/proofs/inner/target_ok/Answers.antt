-- `unmake::inner::target_ok` meets its contract.
use mathlib.Core.Path.{ap}
use mathlib.Core.Bool.{Bool, ◌&&◌}
use lib.Dec.{ltb}
use Rattle.squares.specs.Tests.{◌and◌}
use Rattle.laws.specs.Boards.{men_in}
use Rattle.unmake.specs.Retracted.{target_for}
use Rattle.position.proofs.Editing.{no_man}
use Rattle.unmake.proofs.inner.target_ok.Goals as goal

pub returns : goal.returns
unfolding target_for ◌and◌
returns c = ap (λ (z : Bool). ltb c.args.r.target 64 && z) (no_man (men_in c.args.p c.args.r.target) c.man_at.ensures.0)
