-- What the lists read of a board: the `let`s that open each `legals` of piece_type.rs (21 to 50, 202 to 209, 375 to 382, 508 to 513), and
-- `mask` (retraction_gen.rs, 233). No acceptance is asked of the position, nor of the worked-out sets beside it.
use Rattle.std.specs.Prelude.{Bool, cond, List, [], ◌∷◌, ℕ}
use Rattle.std.specs.Int.Bits.{bit_and, bit_xor}
use Rattle.squares.specs.Tests.{◌or◌}
use Rattle.squares.specs.Squares.{only}
use Rattle.squares.specs.Members.{compl, first_of}
use Rattle.geometry.specs.declared.Color.{Color}
use Rattle.geometry.specs.Colors.{opp}
use Rattle.laws.specs.declared.Piece.TheVariants.{Pawn, Knight, Bishop, Rook, Queen, King}
use Rattle.laws.specs.declared.Position.{Position}
use Rattle.laws.specs.declared.Side.{Side}
use Rattle.laws.specs.declared.Side.TheVariants.{Short as short, Long as long}
use Rattle.laws.specs.Positions.{rights_of, corner}
use Rattle.laws.specs.Boards.{kind_set, color_set}
use Rattle.view.specs.declared.View.{View}

-- `castling_rooks` (piece_type.rs, 38 to 50): the corners that a right of the colour covers
unfoldable pub castling_rooks : Color → Bool → Bool → ℕ
castling_rooks c kingside queenside = bit_xor (cond kingside (only (corner c short)) 0) (cond queenside (only (corner c long)) 0)

-- `board.pieces(k) & set` for each kind k
unfoldable pub within : List ℕ → ℕ → List ℕ
within pieces set =
    bit_and (kind_set pieces Pawn) set ∷ bit_and (kind_set pieces Knight) set ∷ bit_and (kind_set pieces Bishop) set
    ∷ bit_and (kind_set pieces Rook) set ∷ bit_and (kind_set pieces Queen) set ∷ bit_and (kind_set pieces King) set ∷ []

-- `board.king_square(color)` (board.rs, 265): `(self.pieces(Piece::King) & self.color_combined(color)).to_square()`
abbrev pub king_square : Position → Color → ℕ
king_square p c = first_of (kind_set (within p.pieces (color_set p.colors c)) King)

-- `retracting_color` is `!board.side_to_move()`, so that `!retracting_color` is the turn; the retractor has the right of a side
abbrev pub has_right : Position → Side → Bool
has_right p d = rights_of p.white p.black (opp p.turn) d

unfoldable pub view_of : Position → (combined pinned checkers : ℕ) → View
view_of p combined pinned checkers = record {
  color = opp p.turn;
  held = has_right p short or has_right p long;
  corners = castling_rooks (opp p.turn) (has_right p short) (has_right p long);
  combined = combined;
  own = color_set p.colors (opp p.turn);
  men = within p.pieces (color_set p.colors (opp p.turn));
  foes = within p.pieces (color_set p.colors p.turn);
  rivals = bit_and (kind_set p.pieces Pawn) (compl (color_set p.colors (opp p.turn)));
  mask = compl (color_set p.colors p.turn);
  king = king_square p (opp p.turn);
  oppking = king_square p p.turn;
  pinned = pinned;
  checkers = checkers;
  pieces = p.pieces;
  colors = p.colors;
  passant = p.passant;
  edition = p.terms.edition;
}
