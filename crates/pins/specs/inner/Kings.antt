-- The one king of a colour, and the men that may pin against a square.
use Rattle.std.specs.Prelude.{◌≡◌, ℕ, ◌<◌, eqb}
use Rattle.squares.specs.Tests.{◌and◌}
use Rattle.squares.specs.Squares.{set_of}
use Rattle.geometry.specs.declared.Color.{Color}
use Rattle.laws.specs.declared.Piece.TheVariants.{King}
use Rattle.laws.specs.Men.{man, Men, is_of, same_man}
use Rattle.laws.specs.Attacks.{slides}

-- q is the square of the king of c, and no other is
pub record TheKing (m : Men) (c : Color) (q : ℕ) : Type 0 where
  pub here : q < 64
  pub only : (a : ℕ) → a < 64 → same_man (m a) (man c King) ≡ eqb a q

-- the squares of the men of c on a line with q that they move along
unfoldable pub snipers_of : Men → Color → ℕ → ℕ
snipers_of m c q = set_of (λ a. is_of c (m a) and slides (m a) a q)
