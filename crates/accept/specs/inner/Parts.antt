-- A part of a test of a board, the contract of one function.
use Rattle.std.specs.Prelude.{Bool, ℕ, eqb}
use Rattle.squares.specs.Tests.{◌and◌}
use Rattle.geometry.specs.declared.Color.{Color}
use Rattle.geometry.specs.Colors.{rank_for, behind}
use Rattle.laws.specs.declared.Piece.TheVariants.{Pawn}
use Rattle.laws.specs.Men.{man, Men, is_empty, same_man}

-- 5: a pawn of c on its fourth rank, both squares behind it empty
unfoldable pub stepped_twice : Men → Color → ℕ → Bool
stepped_twice m c q = same_man (m q) (man c Pawn) and eqb (rank_for c q) 3 and is_empty (m (behind c q)) and is_empty (m (behind c (behind c q)))
