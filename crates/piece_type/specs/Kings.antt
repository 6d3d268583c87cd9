-- The king's own `legals` (piece_type.rs, 504 to 608).
use Rattle.std.specs.Prelude.{false, not, ℕ, ◌==◌, if◌then◌else◌}
use Rattle.squares.specs.Tests.{◌and◌, ◌or◌}
use Rattle.squares.specs.Squares.{file, rank}
use Rattle.geometry.specs.Colors.{opp}
use Rattle.geometry.specs.Lines.{between_of}
use Rattle.laws.specs.declared.Piece.TheVariants.{Rook}
use Rattle.laws.specs.declared.Board.{Board}
use Rattle.retraction_list.specs.declared.UnCaptureKind.TheVariants.{Optional, Necessary, Forbidden}
use Rattle.retraction_list.specs.Entries.{entry_of}
use Rattle.geometry.specs.Chess.{rook_moves}
use Rattle.piece_type.specs.Bitboards.{◌&◌, !◌, ◌!=◌, EMPTY, from_square, to_square}
use Rattle.piece_type.specs.Squares.{to_my_backrank, uleft, uright}
use Rattle.piece_type.specs.Boards.{pieces_of, color_combined, castle_rights, not_no_rights, king_square, is_attacked}
use Rattle.piece_type.specs.Statements.{Run, ◌>>◌, push, skip, when}
use Rattle.piece_type.specs.PieceTypes.{CheckType, nb_checkers, KingType}

unfoldable pub legals : CheckType → Board → ℕ → Run
legals T board mask = do
  let Self = KingType
  -- 508 to 513
  let combined = board.combined
  let retracting_color = opp board.turn
  let src = king_square board retracting_color
  let opp_ksq = king_square board (opp retracting_color)
  let pinned = board.pinned
  let my_pieces = color_combined board retracting_color
  -- 515 to 517: `return`
  if not_no_rights (castle_rights board retracting_color) then skip else do
    -- 519 to 525
    let targets =
        Self.pseudo_legals src retracting_color combined mask & ! Self.pseudo_legals opp_ksq (opp retracting_color) combined mask & ! combined
    let targets = if nb_checkers T == 1 then targets & between_of (to_square board.checkers) opp_ksq else targets
    -- 527 to 532
    let targets_with_optional_uncapture = if from_square src & pinned != EMPTY then targets & between_of src opp_ksq else targets
    let targets_with_necessary_uncapture = targets & ! targets_with_optional_uncapture
    -- 534 to 554
    when (targets_with_optional_uncapture != EMPTY) (push (entry_of src targets_with_optional_uncapture Optional false))
    when (targets_with_necessary_uncapture != EMPTY) (push (entry_of src targets_with_necessary_uncapture Necessary false))
    -- 563 to 607: `File::G`, `File::C`
    when (rank src == to_my_backrank retracting_color) do
      let my_rooks = my_pieces & pieces_of board Rook
      if file src == 6
          and from_square (uleft src) & my_rooks != EMPTY
          and from_square (uleft (uleft src)) & combined == EMPTY
          and from_square (uright src) & combined == EMPTY
          and not (is_attacked board (uleft src) (opp retracting_color))
          and not (is_attacked board (uleft (uleft src)) (opp retracting_color))
          and rook_moves opp_ksq combined & from_square (uright src) == EMPTY
          and (nb_checkers T == 0 or board.checkers & from_square (uleft src) != EMPTY)
          then push (entry_of src (from_square (uleft (uleft src))) Forbidden false)
          else when
          (file src == 2
          and from_square (uright src) & my_rooks != EMPTY
          and from_square (uright (uright src)) & combined == EMPTY
          and from_square (uleft src) & combined == EMPTY
          and from_square (uleft (uleft src)) & combined == EMPTY
          and not (is_attacked board (uright src) board.turn)
          and not (is_attacked board (uright (uright src)) board.turn)
          and rook_moves opp_ksq combined & from_square (uleft (uleft src)) == EMPTY
          and (nb_checkers T == 0 or board.checkers & from_square (uright src) != EMPTY))
          (push (entry_of src (from_square (uright (uright src))) Forbidden false))
