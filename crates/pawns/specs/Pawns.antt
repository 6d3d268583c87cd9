-- The pawn's `legals` (piece_type.rs, 198 to 346), with the number n of checkers: 0, 1, or 2; its un-en-passant is another crate's.
-- Where the Rust writes `a & b & c`, the same sets may be grouped otherwise here; `x & s != EMPTY` of a single square x is `has s x`.
use Rattle.std.specs.Prelude.{Bool, true, false, not, cond, List, ◌++◌, ℕ, eqb, leb}
use Rattle.std.specs.Int.Bits.{bit_and, bit_or}
use Rattle.squares.specs.Tests.{◌and◌, ◌or◌}
use Rattle.squares.specs.Squares.{rank, has, only}
use Rattle.squares.specs.Members.{compl, all_squares, first_of, members, concat}
use Rattle.geometry.specs.Colors.{opp, own_rank, back_of}
use Rattle.geometry.specs.Lines.{between_of}
use Rattle.laws.specs.declared.EnPassantFlag.{EnPassantFlag}
use Rattle.laws.specs.declared.EnPassantFlag.TheVariants.{Any, Some, None}
use Rattle.laws.specs.declared.Edition.{Edition}
use Rattle.laws.specs.declared.Edition.TheVariants.{A, B}
use Rattle.retraction_list.specs.declared.SourceAndTargets.{SourceAndTargets}
use Rattle.retraction_list.specs.declared.UnCaptureKind.TheVariants.{Necessary, Forbidden}
use Rattle.retraction_list.specs.Entries.{offered}
use Rattle.view.specs.declared.View.{View}
use Rattle.geometry.specs.Chess.{rank_set, adjacent_files, pawn_attacks, line_of}
use Rattle.un_en_passant.specs.UnEnPassants.{pawns_of, vacant_of, un_en_passants_of}

-- `first_rank` and `last_rank` (213, 214)
abbrev pub first_rank : View → ℕ
first_rank v = rank_set (own_rank v.color 0)

abbrev pub last_rank : View → ℕ
last_rank v = rank_set (own_rank v.color 7)

-- `checkers & (pieces | last_rank)`, and `candidate_retractors` (215 to 225)
abbrev pub checking_of : View → ℕ
checking_of v = bit_and v.checkers (bit_or (pawns_of v) (last_rank v))

unfoldable pub candidate_retractors : View → ℕ → ℕ
candidate_retractors v n =
    cond (leb 1 n and not (eqb (checking_of v) 0)) (checking_of v)
    (cond (leb n 1) (bit_or (pawns_of v) (bit_and (bit_and (last_rank v) v.own) (compl (only v.king)))) 0)

-- `other_checker_ray` (227 to 233)
unfoldable pub other_ray_of : View → ℕ → ℕ → ℕ
other_ray_of v n src =
    cond (eqb n 0 or (eqb n 1 and eqb (first_of v.checkers) src)) all_squares
    (between_of (first_of (bit_and v.checkers (compl (only src)))) v.oppking)

-- `match board.en_passant()` (243 to 247), where lonely says `ep_capturers & enemy_pawns == EMPTY`; "in B a dash lists no double step"
abbrev pub allows_of : Edition → EnPassantFlag → Bool → Bool
allows_of v Any lonely = true
allows_of v (Some sq) lonely = false
allows_of A None lonely = lonely
allows_of B None lonely = false

-- `ep_capturers` (241), and the test of a double push (242 to 249)
abbrev pub capturers_of : ℕ → ℕ
capturers_of src = bit_and (adjacent_files src) (rank_set (rank src))

unfoldable pub doubled_of : View → ℕ → ℕ → Bool
doubled_of v src crossed =
    eqb (rank src) (own_rank v.color 3) and allows_of v.edition v.passant (eqb (bit_and (capturers_of src) v.rivals) 0) and not (has v.combined crossed)

-- `targets` before the masks (239 to 251)
unfoldable pub crossed_of : View → ℕ → ℕ → ℕ
crossed_of v src crossed = cond (doubled_of v src crossed) (bit_or (only crossed) (only (back_of v.color crossed))) (only crossed)

-- `!combined & !check_mask & !first_rank & other_checker_ray & mask` (252)
unfoldable pub home_of : View → ℕ → ℕ
home_of v ray = bit_and (bit_and (bit_and (vacant_of v) (compl (first_rank v))) ray) v.mask

-- `targets` of an un-push (252 to 255)
unfoldable pub unpush_of : View → ℕ → ℕ → ℕ
unpush_of v ray src =
    cond (has v.pinned src) (bit_and (bit_and (crossed_of v src (back_of v.color src)) (home_of v ray)) (line_of src v.oppking))
    (bit_and (crossed_of v src (back_of v.color src)) (home_of v ray))

-- `targets` of an uncapture (268 to 272)
unfoldable pub uncapture_of : View → ℕ → ℕ → ℕ
uncapture_of v ray src = bit_and (pawn_attacks (opp v.color) src) (home_of v ray)

-- `src.get_rank() == retracting_color.to_their_backrank()` (262, 279)
abbrev pub promoted_of : View → ℕ → Bool
promoted_of v src = eqb (rank src) (own_rank v.color 7)

-- one turn of `for src in candidate_retractors` (226 to 283)
unfoldable pub from_of : View → ℕ → ℕ → List SourceAndTargets
from_of v n src =
    offered src (unpush_of v (other_ray_of v n src) src) Forbidden (promoted_of v src)
    ++ offered src (uncapture_of v (other_ray_of v n src) src) Necessary (promoted_of v src)

unfoldable pub steps_of : View → ℕ → List SourceAndTargets
steps_of v n = concat (from_of v n) (members (candidate_retractors v n))

-- `legals` of the pawn, whole
unfoldable pub pawn_of : View → ℕ → List SourceAndTargets
pawn_of v n = steps_of v n ++ un_en_passants_of v n
