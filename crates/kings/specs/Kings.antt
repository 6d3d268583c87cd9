-- `legals` of the king (piece_type.rs, 504 to 608), with the number n of checkers: 0 or 1. `x & s != EMPTY` of a single square x is `has s x`.
use Rattle.std.specs.Prelude.{Bool, false, not, cond, List, [], ◌∷◌, ◌++◌, ℕ, eqb}
use Rattle.std.specs.Int.Bits.{bit_and, bit_or}
use Rattle.squares.specs.Tests.{◌and◌, ◌or◌}
use Rattle.squares.specs.Squares.{has, only}
use Rattle.squares.specs.Members.{compl, first_of}
use Rattle.geometry.specs.Colors.{home_square}
use Rattle.geometry.specs.Lines.{between_of}
use Rattle.laws.specs.declared.Piece.TheVariants.{Pawn, Knight, Bishop, Rook, Queen, King}
use Rattle.laws.specs.declared.Side.TheVariants.{Short as short, Long as long}
use Rattle.laws.specs.Positions.{king_home, corner, king_to, rook_to}
use Rattle.laws.specs.Boards.{kind_set}
use Rattle.retraction_list.specs.declared.SourceAndTargets.{SourceAndTargets}
use Rattle.retraction_list.specs.declared.UnCaptureKind.TheVariants.{Optional, Necessary, Forbidden}
use Rattle.retraction_list.specs.Entries.{entry_of, offered}
use Rattle.view.specs.declared.View.{View}
use Rattle.geometry.specs.Chess.{knight_moves, king_moves, bishop_moves, rook_moves, pawn_attacks}

-- `is_attacked(board, sq, color)` (chess_utils.rs, 136 to 157) for the side to move: its rooks, bishops and queens that see sq (142 to 148). The
-- sets in `foes` are `board.pieces(k) & color_pieces`, so `(R | Q) & color_pieces` reads `R | Q` of them
unfoldable pub far_of : View → ℕ → ℕ
far_of v sq =
    bit_or (bit_and (rook_moves sq v.combined) (bit_or (kind_set v.foes Rook) (kind_set v.foes Queen)))
    (bit_and (bishop_moves sq v.combined) (bit_or (kind_set v.foes Bishop) (kind_set v.foes Queen)))

-- its knights, king and pawns that see sq (150 to 154): pawns attack from where the other colour's would attack back
unfoldable pub near_of : View → ℕ → ℕ
near_of v sq =
    bit_or (bit_or (bit_and (knight_moves sq) (kind_set v.foes Knight)) (bit_and (king_moves sq) (kind_set v.foes King)))
    (bit_and (pawn_attacks v.color sq) (kind_set v.foes Pawn))

-- `attackers != EMPTY`
unfoldable pub attacked_of : View → ℕ → Bool
attacked_of v sq = not (eqb (bit_or (far_of v sq) (near_of v sq)) 0)

-- `targets` (519 to 521)
abbrev pub away_of : View → ℕ
away_of v = bit_and (bit_and (bit_and (king_moves v.king) v.mask) (compl (bit_and (king_moves v.oppking) v.mask))) (compl v.combined)

-- and on the checker's ray if there is one (523 to 525)
unfoldable pub steps_of : View → ℕ → ℕ
steps_of v n = cond (eqb n 1) (bit_and (away_of v) (between_of (first_of v.checkers) v.oppking)) (away_of v)

-- `targets_with_optional_uncapture` (527 to 531)
abbrev pub may_of : View → ℕ → ℕ
may_of v targets = cond (has v.pinned v.king) (bit_and targets (between_of v.king v.oppking)) targets

-- the steps' entries (532 to 554)
unfoldable pub stepped_of : View → ℕ → List SourceAndTargets
stepped_of v targets =
    offered v.king (may_of v targets) Optional false ++ offered v.king (bit_and targets (compl (may_of v targets))) Necessary false

-- neither the rook's square nor the king's earlier one is attacked
unfoldable pub safe_of : View → ℕ → ℕ → Bool
safe_of v rook e = not (attacked_of v rook) and not (attacked_of v e)

-- what both un-castlings ask (567 to 574, 587 to 596): our rook stands on its square; e and the corner are empty; no attack; the rook on the
-- corner gives no check; there is no checker, or the rook is one. The order of these tests says nothing
unfoldable pub castled_of : View → ℕ → ℕ → ℕ → ℕ → Bool
castled_of v n rook e corner =
    has (kind_set v.men Rook) rook and not (has v.combined e) and not (has v.combined corner) and safe_of v rook e
    and not (has (rook_moves v.oppking v.combined) corner)
    and (eqb n 0 or has v.checkers rook)

-- `src` is on its home rank (563) and on g (566): `src.uleft()` is f, `src.uleft().uleft()` e and `src.uright()` h
unfoldable pub short_of : View → ℕ → Bool
short_of v n = eqb v.king (king_to v.color short) and castled_of v n (rook_to v.color short) (king_home v.color) (corner v.color short)

-- on c (586), with b empty too (589)
unfoldable pub long_of : View → ℕ → Bool
long_of v n =
    eqb v.king (king_to v.color long) and not (has v.combined (home_square v.color 1))
    and castled_of v n (rook_to v.color long) (king_home v.color) (corner v.color long)

-- both push the same entry, the king to e (577 to 583, 599 to 605)
unfoldable pub uncastled_of : View → ℕ → List SourceAndTargets
uncastled_of v n = cond (short_of v n or long_of v n) (entry_of v.king (only (king_home v.color)) Forbidden false ∷ []) []

-- `legals` (504 to 608): nothing while a right is held (515)
unfoldable pub king_of : View → ℕ → List SourceAndTargets
king_of v n = cond v.held [] (stepped_of v (steps_of v n) ++ uncastled_of v n)
