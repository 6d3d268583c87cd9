-- Which men may be uncaptured on a square, and the bishops of its shade.
use Rattle.std.specs.Prelude.{Bool, not, cond, ℕ, eqb, leb}
use Rattle.squares.specs.Tests.{◌and◌}
use Rattle.squares.specs.Squares.{how_many}
use Rattle.geometry.specs.declared.Color.{Color}
use Rattle.laws.specs.declared.Piece.TheVariants.{Bishop}
use Rattle.laws.specs.Men.{man, Men, numbered, same_man, put}
use Rattle.laws.specs.Souls.{dark, souls}
use Rattle.laws.specs.Acceptance.{edge}

-- the man of d numbered u, 1 P to 5 Q, may be uncaptured on s: no pawn on rank 1 or 8, and with it there d has at most eight souls
unfoldable pub comes_back : Men → Color → ℕ → ℕ → Bool
comes_back m d s u = leb 1 u and leb u 5 and not (eqb u 1 and edge s) and leb (souls (put s (numbered d u) m) d) 8

-- the square a has the shade of s
abbrev pub like_shade : ℕ → ℕ → Bool
like_shade s a = cond (dark s) (dark a) (not (dark a))

-- how many bishops of d stand on the shade of s
unfoldable pub bishops_like : Men → Color → ℕ → ℕ
bishops_like m d s = how_many (λ a. same_man (m a) (man d Bishop) and like_shade s a)
