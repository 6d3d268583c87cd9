-- What piece_type.rs asks of a board (board.rs, 190 to 267), and `is_attacked` (chess_utils.rs, 136 to 157).
use Rattle.std.specs.Prelude.{Bool, true, false, ℕ}
use Rattle.geometry.specs.declared.Color.{Color}
use Rattle.geometry.specs.declared.Color.TheVariants.{White, Black}
use Rattle.geometry.specs.Colors.{opp}
use Rattle.laws.specs.declared.Piece.{Piece}
use Rattle.laws.specs.declared.Piece.TheVariants.{Pawn, Knight, Bishop, Rook, Queen, King}
use Rattle.laws.specs.declared.CastleRights.{CastleRights}
use Rattle.laws.specs.declared.CastleRights.TheVariants.{NoRights, KingSide, QueenSide, Both}
use Rattle.laws.specs.declared.Board.{Board}
use Rattle.laws.specs.Boards.{kind_set, color_set}
use Rattle.geometry.specs.Chess.{knight_moves, king_moves, bishop_moves, rook_moves}
use Rattle.piece_type.specs.Bitboards.{◌&◌, ◌¦◌, ◌!=◌, EMPTY, to_square}
use Rattle.piece_type.specs.Squares.{get_pawn_attacks}

-- `board.pieces(piece)` and `board.color_combined(color)`
abbrev pub pieces_of : Board → Piece → ℕ
pieces_of board piece = kind_set board.pieces piece

abbrev pub color_combined : Board → Color → ℕ
color_combined board color = color_set board.colors color

-- `board.castle_rights(color)` (board.rs, 247), and its test `!= CastleRights::NoRights`
abbrev pub castle_rights : Board → Color → CastleRights
castle_rights board White = board.white
castle_rights board Black = board.black

abbrev pub not_no_rights : CastleRights → Bool
not_no_rights NoRights = false
not_no_rights KingSide = true
not_no_rights QueenSide = true
not_no_rights Both = true

-- `board.king_square(color)`
abbrev pub king_square : Board → Color → ℕ
king_square board color = to_square (pieces_of board King & color_combined board color)

unfoldable pub is_attacked : Board → ℕ → Color → Bool
is_attacked board square color =
    let combined = board.combined in
    let color_pieces = color_combined board color in
    let attackers = EMPTY in
    let attackers = attackers ¦ rook_moves square combined & (pieces_of board Rook ¦ pieces_of board Queen) & color_pieces in
    let attackers = attackers ¦ bishop_moves square combined & (pieces_of board Bishop ¦ pieces_of board Queen) & color_pieces in
    let attackers = attackers ¦ knight_moves square & pieces_of board Knight & color_pieces in
    let attackers = attackers ¦ king_moves square & pieces_of board King & color_pieces in
    let attackers = attackers ¦ get_pawn_attacks square (opp color) (pieces_of board Pawn & color_pieces) in
    attackers != EMPTY
