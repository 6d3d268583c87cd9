-- `PieceType` and `CheckType` (piece_type.rs, 10 to 12, 160 to 185), and each kind's `pseudo_legals`, as the Rust has them.
use Rattle.std.specs.Prelude.{ℕ}
use Rattle.geometry.specs.declared.Color.{Color}
use Rattle.geometry.specs.Colors.{opp}
use Rattle.laws.specs.declared.Piece.{Piece}
use Rattle.laws.specs.declared.Piece.TheVariants.{Pawn, Knight, Bishop, Rook, Queen, King}
use Rattle.geometry.specs.Chess.{knight_moves, king_moves, bishop_moves, rook_moves}
use Rattle.piece_type.specs.Bitboards.{◌&◌, !◌, ◌⊻◌}
use Rattle.piece_type.specs.Squares.{get_pawn_attacks, get_pawn_quiets}

-- `fn into_piece() -> Piece`, `fn pseudo_legals(src: Square, color: Color, combined: BitBoard, mask: BitBoard) -> BitBoard`
pub record PieceType : Type 0 where
  pub into_piece : Piece
  pub pseudo_legals : ℕ → Color → ℕ → ℕ → ℕ

-- 167 to 185
pub data CheckType : Type 0 where
  NotInCheck InSimpleCheck InDoubleCheck : CheckType

abbrev pub nb_checkers : CheckType → ℕ
nb_checkers NotInCheck = 0
nb_checkers InSimpleCheck = 1
nb_checkers InDoubleCheck = 2

-- 188 to 195; no `legals` calls this one
abbrev pub PawnType : PieceType
PawnType = record {
  into_piece = Pawn;
  pseudo_legals = λ src color combined mask. (get_pawn_attacks src (opp color) (! combined) ⊻ get_pawn_quiets src (opp color) combined) & mask;
}

-- 350 to 357
abbrev pub BishopType : PieceType
BishopType = record { into_piece = Bishop; pseudo_legals = λ src color combined mask. bishop_moves src combined & mask }

-- 361 to 368
abbrev pub KnightType : PieceType
KnightType = record { into_piece = Knight; pseudo_legals = λ src color combined mask. knight_moves src & mask }

-- 473 to 480
abbrev pub RookType : PieceType
RookType = record { into_piece = Rook; pseudo_legals = λ src color combined mask. rook_moves src combined & mask }

-- 484 to 491
abbrev pub QueenType : PieceType
QueenType = record { into_piece = Queen; pseudo_legals = λ src color combined mask. (rook_moves src combined ⊻ bishop_moves src combined) & mask }

-- 494 to 501
abbrev pub KingType : PieceType
KingType = record { into_piece = King; pseudo_legals = λ src color combined mask. king_moves src & mask }
