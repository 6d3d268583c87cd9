-- What the state's turning rests on.
use Rattle.std.specs.Prelude.{◌≡◌, cond, ℕ, ◌<◌}
use Rattle.geometry.specs.declared.Color.{Color}
use Rattle.laws.specs.declared.EnPassantFlag.{EnPassantFlag}
use Rattle.laws.specs.declared.EnPassantFlag.TheVariants.{Some, None}
use Rattle.laws.specs.declared.Edition.TheVariants.{A}
use Rattle.laws.specs.declared.Position.{Position}
use Rattle.laws.specs.Men.{Men}
use Rattle.laws.specs.Acceptance.{noted}
use Rattle.laws.specs.Boards.{Clean}

-- a square of B in A
unfoldable pub square_turned : Men → Color → ℕ → EnPassantFlag
square_turned m c q = cond (noted A m c q) (Some q) None

-- clean men, and a named square is one of the board
pub record Turns (p : Position) : Type 0 where
  pub sound : Clean p.pieces p.colors
  pub named : (q : ℕ) → p.passant ≡ Some q → q < 64
