-- Parts of un-make, each of them the contract of one function.
use Rattle.std.specs.Prelude.{◌≡◌, Bool, not, ℕ, ◌<◌}
use Rattle.squares.specs.Tests.{◌and◌}
use Rattle.geometry.specs.declared.Color.{Color}
use Rattle.geometry.specs.Colors.{opp, rank_for}
use Rattle.laws.specs.declared.Piece.TheVariants.{Rook}
use Rattle.laws.specs.declared.Side.{Side}
use Rattle.laws.specs.declared.Way.{Way}
use Rattle.laws.specs.declared.Way.TheVariants.{Plain as plain, Passant as passant, Castle as castling}
use Rattle.laws.specs.declared.Position.{Position}
use Rattle.laws.specs.declared.ChessRetraction.{ChessRetraction}
use Rattle.laws.specs.Men.{Man, man, Men, man_of, numbered, same_man, is_empty, is_pawn}
use Rattle.laws.specs.Positions.{Pos, corner, rook_to}
use Rattle.laws.specs.Acceptance.{edge}
use Rattle.laws.specs.Unmaking.{before, leaving, undoable}
use Rattle.laws.specs.Boards.{Clean, men_in}
use Rattle.moves.specs.Stepping.{possible_for}

-- the pawn taken en passant stood on the board, behind s
abbrev pub Fits : Way → Color → ℕ → Type 0
Fits plain c s = Unit {0}
Fits passant c s = 0 < rank_for c s
Fits (castling d) c s = Unit {0}

-- the Laws' `before` and `undoable`, shut
unfoldable pub before_for : Way → Color → ℕ → ℕ → Man → Man → Men → Men
before_for w c t s x y m = before w c t s x y m

unfoldable pub undoable_for : Way → Color → ℕ → Men → Bool
undoable_for w c s m = undoable w c s m

-- "own rook on f or d, .. h empty or both b and a empty": the rook beside the castled king, nothing in its corner
abbrev pub castled_for : Men → Color → Side → Bool
castled_for m c d = same_man (m (rook_to c d)) (man c Rook) and is_empty (m (corner c d))

-- 12 behind `undoable`: c is the retractor, e the un-made position, k the kind promoted to
unfoldable pub rest_for : Color → Pos → ChessRetraction → ℕ → Bool
rest_for c e r k =
    not (is_pawn (numbered (opp c) r.uncaptured) and edge r.source) and not (is_pawn (e.men r.target) and edge r.target) and possible_for e r k

-- what un-make is asked: clean men, squares and uncaptured man in range, and x the number of the man that left
pub record Leaves (p : Position) (r : ChessRetraction) (w : Way) (c : Color) (x : ℕ) : Type 0 where
  pub sound : Clean p.pieces p.colors
  pub source_in : r.source < 64
  pub target_in : r.target < 64
  pub uncaptured_in : r.uncaptured < 6
  pub man_in : x < 14
  pub man_is : man_of x ≡ leaving r.unpromotion c (men_in p r.source)
  pub fits : Fits w c r.source
