-- `strict_test::inner::unattacked` meets its contract.
use mathlib.Core.Path.{◌∙◌, ap₂}
use mathlib.Core.Bool.{Bool, not, ◌&&◌}
use Prim.Native.Nat.{ℕ}
use Rattle.geometry.specs.declared.Color.{Color}
use Rattle.laws.specs.Attacks.{attacked}
use Rattle.laws.specs.Boards.{men_in}
use Rattle.squares.specs.Tests.{◌and◌}
use Rattle.strict_test.proofs.inner.unattacked.Goals as goal

pub returns : goal.returns
unfolding ◌and◌
returns c = ap₂ (λ (i j : Bool). not i && not j)
    (c.is_attacked-out.ensures ∙ ap₂ (λ (a : Color) (q : ℕ). attacked (men_in c.args.e) a q) c.other-enemy.ensures c.king_home-king.ensures.0)
    (c.is_attacked-through.ensures ∙ ap₂ (λ (a : Color) (q : ℕ). attacked (men_in c.args.e) a q) c.other-enemy.ensures c.rook_to-rook.ensures.0)
