-- `enumerate_retractions` (retraction_gen.rs, 231 to 272): the ported list of what is seen of a board, of which no acceptance is asked.
-- This, and what pawns, un_en_passant, officers and kings define, has our code's shape; piece_type proves it equal to the Rust's own statements.
use Rattle.std.specs.Prelude.{false, cond, List, [], ◌∷◌, ◌++◌, ℕ, ◌%◌, eqb, ltb}
use Rattle.std.specs.Int.Bits.{bit_and}
use Rattle.squares.specs.Squares.{file, size}
use Rattle.geometry.specs.Colors.{own_rank}
use Rattle.laws.specs.declared.Piece.TheVariants.{Knight, Bishop, Rook, Queen}
use Rattle.laws.specs.declared.EnPassantFlag.{EnPassantFlag}
use Rattle.laws.specs.declared.EnPassantFlag.TheVariants.{Any, Some, None}
use Rattle.laws.specs.Men.{kind_place}
use Rattle.retraction_list.specs.declared.SourceAndTargets.{SourceAndTargets}
use Rattle.retraction_list.specs.declared.UnCaptureKind.TheVariants.{Forbidden}
use Rattle.retraction_list.specs.Entries.{entry_of}
use Rattle.view.specs.declared.View.{View}
use Rattle.geometry.specs.Chess.{file_set, rank_set}
use Rattle.officers.specs.Officers.{officer_of}
use Rattle.pawns.specs.Pawns.{pawn_of}
use Rattle.kings.specs.Kings.{king_of}

-- "in the Rust's order: pawn, knight, bishop, rook, queen, king; with two checkers no queen or king" (248 to 269)
unfoldable pub lesser_of : View → ℕ → List SourceAndTargets
lesser_of v n = pawn_of v n ++ officer_of v n (kind_place Knight) ++ officer_of v n (kind_place Bishop) ++ officer_of v n (kind_place Rook)

unfoldable pub kinds_of : View → ℕ → List SourceAndTargets
kinds_of v n = cond (eqb n 2) (lesser_of v n) (lesser_of v n ++ officer_of v n (kind_place Queen) ++ king_of v n)

-- "with three or more, none"
unfoldable pub by_checkers : View → ℕ → List SourceAndTargets
by_checkers v n = cond (ltb 2 n) [] (kinds_of v n)

-- "A named square gives the one double-step entry and returns" (236 to 246): `get_file(src.get_file()) & get_rank(color.to_second_rank())`
unfoldable pub named_of : View → ℕ → List SourceAndTargets
named_of v sq = entry_of sq (bit_and (file_set (file sq)) (rank_set (own_rank v.color 1))) Forbidden false ∷ []

-- the state decides; `checkers == EMPTY` says that their number is 0. The Rust has no square above 63, here it is taken modulo 64
abbrev pub by_state : EnPassantFlag → View → List SourceAndTargets
by_state Any v = by_checkers v (size v.checkers)
by_state (Some sq) v = named_of v (sq % 64)
by_state None v = by_checkers v (size v.checkers)

-- the ported list
unfoldable pub list_of : View → List SourceAndTargets
list_of v = by_state v.passant v

-- the list that `is_limited_in_retractions` builds (291 to 295), and that of the flipped board (314 to 318), whose checkers and pins are stale
unfoldable pub all_but_pawns : View → List SourceAndTargets
all_but_pawns v =
    officer_of v 0 (kind_place Knight) ++ officer_of v 0 (kind_place Bishop) ++ officer_of v 0 (kind_place Rook) ++ officer_of v 0 (kind_place Queen) ++ king_of v 0
