-- The rest of `make_retraction_new` (board.rs, 390 to 425), statement by statement: checkers and pins of the un-made board, read from its own
-- sets. Knights and pawns are looked for only where the king moved or one of them reappeared; sliders always. `piece` is `retracted_piece`,
-- `color` is `side_to_retract`, and `turn` is `self.side_to_move`.
use Rattle.std.specs.Prelude.{Bool, cond, ℕ, eqb}
use Rattle.std.specs.Int.Bits.{bit_and, bit_or, bit_xor}
use Rattle.squares.specs.Tests.{◌or◌}
use Rattle.squares.specs.Squares.{set_of, only, size}
use Rattle.squares.specs.Members.{first_of, members, for_each}
use Rattle.geometry.specs.declared.Color.{Color}
use Rattle.geometry.specs.Colors.{opp}
use Rattle.geometry.specs.Lines.{straight, diagonal, between_of}
use Rattle.laws.specs.declared.Piece.{Piece}
use Rattle.laws.specs.declared.Piece.TheVariants.{Pawn, Knight, Bishop, Rook, Queen, King}
use Rattle.laws.specs.declared.ChessRetraction.{ChessRetraction}
use Rattle.laws.specs.declared.Board.{Board}
use Rattle.laws.specs.Boards.{kind_set, color_set}
use Rattle.geometry.specs.Chess.{knight_moves, pawn_attacks}
use Rattle.incremental.specs.Moved.{is_piece, is_passant_uncapture, piece_on, rust_moved}

-- `result.pieces(piece) & result.color_combined(color)`
abbrev pub side_men : Board → Piece → Color → ℕ
side_men b piece color = bit_and (kind_set b.pieces piece) (color_set b.colors color)

-- checkers and pins stored
unfoldable pub found_stored : Board → (checkers pinned : ℕ) → Board
found_stored b checkers pinned = record {
  pieces = b.pieces;
  colors = b.colors;
  combined = b.combined;
  turn = b.turn;
  white = b.white;
  black = b.black;
  pinned = pinned;
  checkers = checkers;
  passant = b.passant;
  terms = b.terms;
}

-- `result.checkers ^= bb`, `result.pinned ^= bb`
abbrev pub checkers_xor : Board → ℕ → Board
checkers_xor b bb = found_stored b (bit_xor b.checkers bb) b.pinned

abbrev pub pinned_xor : Board → ℕ → Board
pinned_xor b bb = found_stored b b.checkers (bit_xor b.pinned bb)

-- `king_square` (390 to 391)
abbrev pub king_square : Board → Color → ℕ
king_square result color = first_of (side_men result King color)

-- `retracted_piece == Piece::King || r.uncaptured() == Some(Piece::Knight)` (394)
unfoldable pub asks_knights : Piece → ChessRetraction → Bool
asks_knights piece r = is_piece King piece or eqb r.uncaptured 2

-- knight checks (394 to 397), `king_square` being king
unfoldable pub knights_found : Board → Piece → ChessRetraction → Color → ℕ → Board
knights_found result piece r turn king = cond (asks_knights piece r) (checkers_xor result (bit_and (knight_moves king) (side_men result Knight turn))) result

-- `retracted_piece == Piece::King || r.uncaptured() == Some(Piece::Pawn) || en_passant_uncapture` (400 to 402)
unfoldable pub asks_pawns : Piece → ChessRetraction → Bool
asks_pawns piece r = is_piece King piece or eqb r.uncaptured 1 or is_passant_uncapture piece r

-- pawn checks (400 to 406): `get_pawn_attacks(king_square, color, pawns)`
unfoldable pub pawns_found : Board → Piece → ChessRetraction → Color → Color → ℕ → Board
pawns_found result piece r color turn king = cond (asks_pawns piece r) (checkers_xor result (bit_and (pawn_attacks color king) (side_men result Pawn turn))) result

-- `get_bishop_rays(sq)`, `get_rook_rays(sq)`
abbrev pub bishop_rays : ℕ → ℕ
bishop_rays sq = set_of (diagonal sq)

abbrev pub rook_rays : ℕ → ℕ
rook_rays sq = set_of (straight sq)

-- `sliding_attackers` (409 to 414)
unfoldable pub sliding_attackers : Board → Color → ℕ → ℕ
sliding_attackers result turn king =
    let bishops = bit_or (kind_set result.pieces Bishop) (kind_set result.pieces Queen) in
    let rooks = bit_or (kind_set result.pieces Rook) (kind_set result.pieces Queen) in
    bit_and (color_set result.colors turn) (bit_or (bit_and (bishop_rays king) bishops) (bit_and (rook_rays king) rooks))

-- one turn of the loop (417 to 422)
unfoldable pub slider_found : ℕ → Board → ℕ → Board
slider_found king result square =
    let between = bit_and (between_of square king) result.combined in
    cond (eqb between 0) (checkers_xor result (only square)) (cond (eqb (size between) 1) (pinned_xor result between) result)

-- `for square in sliding_attackers` (416 to 423)
unfoldable pub sliders_found : Board → Color → ℕ → Board
sliders_found result turn king = for_each (slider_found king) result (members (sliding_attackers result turn king))

-- 390 to 423
unfoldable pub rust_found : Board → Piece → ChessRetraction → Color → Color → Board
rust_found result piece r color turn =
    let king = king_square result color in
    let result = knights_found result piece r turn king in
    let result = pawns_found result piece r color turn king in
    sliders_found result turn king

-- `make_retraction_new`, whole
unfoldable pub rust_unmade : Board → ChessRetraction → Board
rust_unmade b r = rust_found (rust_moved b r) (piece_on b r.source) r (opp b.turn) b.turn
