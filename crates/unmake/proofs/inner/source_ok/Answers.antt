-- `unmake::inner::source_ok` meets its contract.
use mathlib.Core.Path.{◌∙◌, ap, ap₂}
use mathlib.Core.Bool.{Bool, ◌&&◌}
use lib.Dec.{ltb}
use Rattle.squares.specs.Tests.{◌and◌}
use Rattle.geometry.specs.declared.Color.{Color}
use Rattle.laws.specs.Men.{Man, is_of}
use Rattle.laws.specs.Boards.{men_in}
use Rattle.unmake.specs.Retracted.{source_for}
use Rattle.position.proofs.Editing.{is_man}
use Rattle.unmake.proofs.inner.source_ok.Goals as goal

pub returns : goal.returns
unfolding source_for ◌and◌
returns c = ap (λ (z : Bool). ltb c.args.r.source 64 && z) (c.is_of.ensures ∙ ap₂ (λ (d : Color) (z : Man). is_of d z) c.other-c.ensures (is_man (men_in c.args.p c.args.r.source) c.man_at.ensures.0))
