-- `make_retraction_new` (board.rs, 317 to 388), statement by statement, up to the search for checkers: men, rights and state. The hash is left
-- out, as document 01 says. `result.pieces(k)` is `kindSet result.pieces k`, `result.color_combined(c)` is `colorSet result.colors c`,
-- `BitBoard::from_square(sq)` is `only sq`, and `x & square_bb != EMPTY` of a single square is `has x square`.
use Rattle.std.specs.Prelude.{Bool, not, cond, ℕ, eqb, set}
use Rattle.std.specs.Int.Bits.{bit_and, bit_xor}
use Rattle.squares.specs.Tests.{◌and◌}
use Rattle.squares.specs.Squares.{file, has, only}
use Rattle.geometry.specs.declared.Color.{Color}
use Rattle.geometry.specs.Colors.{opp, is_white, home_square, back_of}
use Rattle.laws.specs.declared.Piece.{Piece}
use Rattle.laws.specs.declared.Piece.TheVariants.{Pawn, Knight, Bishop, Rook, Queen, King}
use Rattle.laws.specs.declared.CastleRights.{CastleRights}
use Rattle.laws.specs.declared.CastleRights.TheVariants.{KingSide, QueenSide}
use Rattle.laws.specs.declared.EnPassantFlag.{EnPassantFlag}
use Rattle.laws.specs.declared.EnPassantFlag.TheVariants.{Any, Some}
use Rattle.laws.specs.declared.ChessRetraction.{ChessRetraction}
use Rattle.laws.specs.declared.Board.{Board}
use Rattle.laws.specs.Men.{Man, empty, man, kind_number, color_place, kind_place, numbered}
use Rattle.laws.specs.Boards.{kind_set, color_set}

-- `piece == Piece::K`
abbrev pub is_piece : Piece → Piece → Bool
is_piece k piece = eqb (kind_number k) (kind_number piece)

-- `xor` (294 to 303): `self.pieces[piece] ^= bb`, `self.color_combined[color] ^= bb`, `self.combined ^= bb`
unfoldable pub xor_of : Board → Piece → ℕ → Color → Board
xor_of b piece bb color = record {
  pieces = set b.pieces (kind_place piece) (bit_xor (kind_set b.pieces piece) bb);
  colors = set b.colors (color_place color) (bit_xor (color_set b.colors color) bb);
  combined = bit_xor b.combined bb;
  turn = b.turn;
  white = b.white;
  black = b.black;
  pinned = b.pinned;
  checkers = b.checkers;
  passant = b.passant;
  terms = b.terms;
}

-- `piece_on(square).unwrap()` (195 to 219). `None` (198) is not unwrapped: by 9 a man stands on the source
unfoldable pub piece_on : Board → ℕ → Piece
piece_on b square =
    cond (has (bit_xor (bit_xor (kind_set b.pieces Pawn) (kind_set b.pieces Knight)) (kind_set b.pieces Bishop)) square)
    (cond (has (kind_set b.pieces Pawn) square) Pawn (cond (has (kind_set b.pieces Knight) square) Knight Bishop))
    (cond (has (kind_set b.pieces Rook) square) Rook (cond (has (kind_set b.pieces Queen) square) Queen King))

-- `let mut result = *self`, the other side to move, the state `Any`, checkers and pins `EMPTY` (318 to 322)
unfoldable pub opened_of : Board → Board
opened_of b = record {
  pieces = b.pieces;
  colors = b.colors;
  combined = b.combined;
  turn = opp b.turn;
  white = b.white;
  black = b.black;
  pinned = 0;
  checkers = 0;
  passant = Any;
  terms = b.terms;
}

-- `retraction_bb` (327 to 329): `source_bb ^ target_bb`
abbrev pub retraction_bb : ChessRetraction → ℕ
retraction_bb r = bit_xor (only r.source) (only r.target)

-- the man goes back (332 to 337). From here on `piece` is `retracted_piece`, `color` is `side_to_retract`, and `turn` is `self.side_to_move`
unfoldable pub stepped_of : Board → Piece → ChessRetraction → Color → Board
stepped_of result piece r color =
    cond r.unpromotion (xor_of (xor_of result piece (only r.source) color) Pawn (only r.target) color) (xor_of result piece (retraction_bb r) color)

-- `if let Some(uncaptured_piece) = r.uncaptured() { result.xor(uncaptured_piece, source_bb, turn) }` (338 to 340), by the man of the side to
-- move with the number `r.uncaptured()`
unfoldable pub uncaptured_of : Board → Man → ℕ → Board
uncaptured_of result empty bb = result
uncaptured_of result (man turn piece) bb = xor_of result piece bb turn

-- `CASTLE_MOVES` (343)
abbrev pub castle_moves : ℕ
castle_moves = 6052837899185946708

-- `retracted_piece == Piece::King && (retraction_bb & CASTLE_MOVES) == retraction_bb` (344)
unfoldable pub is_uncastling : Piece → ChessRetraction → Bool
is_uncastling piece r = is_piece King piece and eqb (bit_and (retraction_bb r) castle_moves) (retraction_bb r)

-- `result.castle_rights[color] = rights`
unfoldable pub rights_stored : Board → Color → CastleRights → Board
rights_stored b color rights = record {
  pieces = b.pieces;
  colors = b.colors;
  combined = b.combined;
  turn = b.turn;
  white = cond (is_white color) rights b.white;
  black = cond (is_white color) b.black rights;
  pinned = b.pinned;
  checkers = b.checkers;
  passant = b.passant;
  terms = b.terms;
}

-- `rook_bb` (353 to 354): `BitBoard::set(my_backrank, f) ^ BitBoard::set(my_backrank, g)`
abbrev pub rook_bb : Color → ℕ → ℕ → ℕ
rook_bb color f g = bit_xor (only (home_square color f)) (only (home_square color g))

-- the rook goes back and the right is recovered (353 to 360), with `rook_files` f and g
unfoldable pub rooked_of : Board → Color → ℕ → ℕ → CastleRights → Board
rooked_of result color f g rights = rights_stored (xor_of result Rook (rook_bb color f g) color) color rights

-- `match source.get_file()` (348 to 352): G, C, and `unreachable!()`, where the board is kept
unfoldable pub uncastled_of : Board → Piece → ChessRetraction → Color → Board
uncastled_of result piece r color =
    cond (is_uncastling piece r)
    (cond (eqb (file r.source) 6) (rooked_of result color 5 7 KingSide) (cond (eqb (file r.source) 2) (rooked_of result color 3 0 QueenSide) result))
    result

-- `en_passant_uncapture` (368 to 370)
unfoldable pub is_passant_uncapture : Piece → ChessRetraction → Bool
is_passant_uncapture piece r = is_piece Pawn piece and eqb r.uncaptured 0 and not (eqb (file r.source) (file r.target))

-- `result.en_passant = state`
unfoldable pub passant_stored : Board → EnPassantFlag → Board
passant_stored b state = record {
  pieces = b.pieces;
  colors = b.colors;
  combined = b.combined;
  turn = b.turn;
  white = b.white;
  black = b.black;
  pinned = b.pinned;
  checkers = b.checkers;
  passant = state;
  terms = b.terms;
}

-- the pawn reappears (371 to 379): `reappearing_pawn_square` is `source.ubackward(color)`
unfoldable pub reborn_of : Board → Piece → ChessRetraction → Color → Color → Board
reborn_of result piece r color turn =
    let square = back_of color r.source in
    cond (is_passant_uncapture piece r) (xor_of (passant_stored result (Some square)) Pawn (only square) turn) result

-- 318 to 379; `side_to_retract` is `!self.side_to_move` (319, 325)
unfoldable pub rust_moved : Board → ChessRetraction → Board
rust_moved b r =
    let color = opp b.turn in
    let piece = piece_on b r.source in
    let result = opened_of b in
    let result = stepped_of result piece r color in
    let result = uncaptured_of result (numbered b.turn r.uncaptured) (only r.source) in
    let result = uncastled_of result piece r color in
    reborn_of result piece r color b.turn
