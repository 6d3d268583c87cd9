-- Where a man leaves a square attacked.
use Rattle.std.specs.Prelude.{Bool, not, ℕ}
use Rattle.squares.specs.Tests.{◌or◌}
use Rattle.squares.specs.Squares.{united}
use Rattle.geometry.specs.declared.Color.{Color}
use Rattle.geometry.specs.Lines.{between}
use Rattle.laws.specs.Men.{Man, Men}
use Rattle.laws.specs.Attacks.{attacks, attackers_of}

-- x on the empty square q leaves k attacked by c's men: it attacks k itself, or does not stand between k and an attacker
unfoldable pub exposed_at : Men → Color → Man → ℕ → ℕ → Bool
exposed_at n c x k q = attacks n x q k or united (λ a j. not (between a k j)) (attackers_of n c k) q
