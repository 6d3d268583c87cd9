-- `legals` of the sliders (piece_type.rs, 17 to 159) and of the knight (371 to 469), one definition over the kind's place among the six and over
-- the number n of checkers. The knight's own `legals` differs from the sliders' in four places, each marked `eqb k (kindPlace Knight)`.
-- Where the Rust writes `a & b & c`, the same sets may be grouped otherwise here; `x & s != EMPTY` of a single square x is `has s x`.
use Rattle.std.specs.Prelude.{false, not, cond, List, [], ◌++◌, ℕ, eqb, get_or}
use Rattle.std.specs.Int.Bits.{bit_and, bit_xor}
use Rattle.squares.specs.Tests.{◌and◌}
use Rattle.squares.specs.Squares.{has}
use Rattle.squares.specs.Members.{compl, first_of, members, concat}
use Rattle.geometry.specs.Lines.{between_of}
use Rattle.laws.specs.declared.Piece.TheVariants.{Knight, Bishop, Rook, Queen}
use Rattle.laws.specs.Men.{kind_place}
use Rattle.retraction_list.specs.declared.SourceAndTargets.{SourceAndTargets}
use Rattle.retraction_list.specs.declared.UnCaptureKind.TheVariants.{Optional, Necessary}
use Rattle.retraction_list.specs.Entries.{offered, capture_kind}
use Rattle.view.specs.declared.View.{View}
use Rattle.geometry.specs.Chess.{knight_moves, bishop_moves, rook_moves, line_of}

-- `Self::pseudo_legals(sq, _, occ, !EMPTY)` (356, 367, 479, 490)
unfoldable pub moves_of : ℕ → ℕ → ℕ → ℕ
moves_of k sq occ =
    cond (eqb k (kind_place Knight)) (knight_moves sq)
    (cond (eqb k (kind_place Bishop)) (bishop_moves sq occ)
    (cond (eqb k (kind_place Rook)) (rook_moves sq occ)
    (bit_xor (rook_moves sq occ) (bishop_moves sq occ))))

-- `pieces` (26)
abbrev pub kind_men : View → ℕ → ℕ
kind_men v k = get_or v.men k 0

-- `Self::pseudo_legals(src, retracting_color, *combined, !combined & mask)`
unfoldable pub steps_of : View → ℕ → ℕ → ℕ
steps_of v k src = bit_and (moves_of k src v.combined) (bit_and (compl v.combined) v.mask)

-- `!check_mask`, where `check_mask = Self::pseudo_legals(opp_ksq, retracting_color, occ, !EMPTY)`
unfoldable pub quiet_of : View → ℕ → ℕ → ℕ
quiet_of v k occ = compl (moves_of k v.oppking occ)

-- `pieces & !castling_rooks`; `pieces` for the knight
unfoldable pub free_of : View → ℕ → ℕ
free_of v k = cond (eqb k (kind_place Knight)) (kind_men v k) (bit_and (kind_men v k) (compl v.corners))

-- a turn of `for src in pieces & !castling_rooks` (55 to 69): `capture_kind(src)`, no un-promotion
unfoldable pub from_of : View → ℕ → ℕ → ℕ → List SourceAndTargets
from_of v k allowed src = offered src (bit_and (steps_of v k src) allowed) (capture_kind (has v.pinned src)) false

unfoldable pub each_of : View → ℕ → ℕ → ℕ → List SourceAndTargets
each_of v k allowed set = concat (from_of v k allowed) (members set)

-- `if T::NB_CHECKERS == 0` (52 to 70, 392 to 410)
unfoldable pub calm_of : View → ℕ → List SourceAndTargets
calm_of v k = each_of v k (quiet_of v k v.combined) (free_of v k)

-- a slider of our own kind checks, from src (76 to 106): with an optional capture, and along its line with a necessary one
unfoldable pub alone_at : View → ℕ → ℕ → List SourceAndTargets
alone_at v k src =
    offered src (bit_and (steps_of v k src) (quiet_of v k (bit_and v.combined (compl v.checkers)))) (capture_kind (has v.pinned src)) false
    ++ offered src (bit_and (bit_and (line_of v.oppking src) (steps_of v k src)) (quiet_of v k v.combined)) Necessary false

-- `if T::NB_CHECKERS == 1 && checkers & pieces & !castling_rooks != EMPTY` (72 to 107); the knight's has neither mask nor line (412 to 426)
unfoldable pub alone_of : View → ℕ → List SourceAndTargets
alone_of v k =
    cond (eqb (bit_and v.checkers (free_of v k)) 0) []
    (cond (eqb k (kind_place Knight)) (offered (first_of v.checkers) (steps_of v k (first_of v.checkers)) Optional false) (alone_at v k (first_of v.checkers)))

-- `between(checkers.to_square(), opp_ksq)`
abbrev pub ray_of : View → ℕ
ray_of v = between_of (first_of v.checkers) v.oppking

-- `if T::NB_CHECKERS == 1 && Self::into_piece() != Piece::Queen && checkers & pieces == EMPTY` (109 to 131); no mask for the knight (428 to 446)
unfoldable pub onto_of : View → ℕ → List SourceAndTargets
onto_of v k =
    cond (not (eqb k (kind_place Queen)) and eqb (bit_and v.checkers (kind_men v k)) 0)
    (each_of v k (cond (eqb k (kind_place Knight)) (ray_of v) (bit_and (ray_of v) (quiet_of v k v.combined))) (free_of v k))
    []

-- our checker on src beside another (138 to 157); a knight's capture is optional even where it is pinned (450 to 467)
unfoldable pub both_at : View → ℕ → ℕ → ℕ → List SourceAndTargets
both_at v k src other =
    offered src (bit_and (bit_and (between_of other v.oppking) (steps_of v k src)) (quiet_of v k v.combined))
    (capture_kind (has v.pinned src and not (eqb k (kind_place Knight)))) false

-- `if T::NB_CHECKERS == 2 && checkers & pieces & !castling_rooks != EMPTY && checkers & !pieces != EMPTY` (134 to 158)
unfoldable pub both_of : View → ℕ → List SourceAndTargets
both_of v k =
    cond (not (eqb (bit_and v.checkers (free_of v k)) 0) and not (eqb (bit_and v.checkers (compl (kind_men v k))) 0))
    (both_at v k (first_of (bit_and v.checkers (kind_men v k))) (first_of (bit_and v.checkers (compl (kind_men v k)))))
    []

-- `legals` with n checkers: 0, 1, or 2 (with more, nothing is listed)
unfoldable pub officer_of : View → ℕ → ℕ → List SourceAndTargets
officer_of v n k = cond (eqb n 0) (calm_of v k) (cond (eqb n 1) (alone_of v k ++ onto_of v k) (both_of v k))
