-- Sets of squares by what stands there.
use Rattle.std.specs.Prelude.{Bool, not, List, ℕ, eqb, leb}
use Rattle.squares.specs.Tests.{◌and◌}
use Rattle.squares.specs.Squares.{rank, set_of}
use Rattle.geometry.specs.declared.Color.{Color}
use Rattle.geometry.specs.Lines.{files}
use Rattle.laws.specs.declared.Piece.{Piece}
use Rattle.laws.specs.declared.Piece.TheVariants.{Pawn}
use Rattle.laws.specs.declared.Edition.{Edition}
use Rattle.laws.specs.Men.{man, Men, same_man}
use Rattle.laws.specs.Acceptance.{beside, noted}
use Rattle.laws.specs.Boards.{kinds_at, colors_at}

-- a square on which 1 MEN fails: not as many kinds as colours, or more than one
unfoldable pub strange : List ℕ → List ℕ → ℕ → Bool
strange pieces colors a = not (eqb (kinds_at pieces a) (colors_at colors a) and leb (kinds_at pieces a) 1)

-- the squares of the men of a colour and a kind
unfoldable pub men_of : Men → Color → Piece → ℕ
men_of m c k = set_of (λ a. same_man (m a) (man c k))

-- k stands beside q, on its rank; a pawn of c does
unfoldable pub next_to : ℕ → ℕ → Bool
next_to q k = eqb (rank k) (rank q) and eqb (files k q) 1

unfoldable pub beside_of : Men → Color → ℕ → Bool
beside_of m c q = beside m (man c Pawn) q

-- what the edition asks of a double step to q, c being to move then
unfoldable pub noted_of : Edition → Men → Color → ℕ → Bool
noted_of v m c q = noted v m c q
