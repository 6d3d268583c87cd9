-- The Laws' test of the double step, shut, as contracts cite it.
use Rattle.std.specs.Prelude.{Bool}
use Rattle.geometry.specs.declared.Color.{Color}
use Rattle.laws.specs.declared.EnPassantFlag.{EnPassantFlag}
use Rattle.laws.specs.Men.{Men}
use Rattle.laws.specs.Strictness.{step_ok}

unfoldable pub step_for : Men → Color → EnPassantFlag → Bool
step_for m c st = step_ok m c st
