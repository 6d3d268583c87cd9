-- The knight's own `legals` (piece_type.rs, 371 to 469).
use Rattle.std.specs.Prelude.{false, ℕ, ◌==◌, if◌then◌else◌}
use Rattle.squares.specs.Tests.{◌and◌}
use Rattle.geometry.specs.Colors.{opp}
use Rattle.geometry.specs.Lines.{between_of}
use Rattle.laws.specs.declared.Board.{Board}
use Rattle.retraction_list.specs.declared.UnCaptureKind.{UnCaptureKind}
use Rattle.retraction_list.specs.declared.UnCaptureKind.TheVariants.{Optional, Necessary}
use Rattle.retraction_list.specs.Entries.{entry_of}
use Rattle.piece_type.specs.Bitboards.{◌&◌, !◌, ◌!=◌, EMPTY, from_square, to_square}
use Rattle.piece_type.specs.Boards.{pieces_of, color_combined, king_square}
use Rattle.piece_type.specs.Statements.{Run, ◌>>◌, push, when, for}
use Rattle.piece_type.specs.PieceTypes.{CheckType, nb_checkers, KnightType}

unfoldable pub legals : CheckType → Board → ℕ → Run
legals T board mask = do
  let Self = KnightType
  -- 375 to 382
  let combined = board.combined
  let retracting_color = opp board.turn
  let retracting_pieces = color_combined board retracting_color
  let opp_ksq = king_square board (opp retracting_color)
  let pieces = pieces_of board Self.into_piece & retracting_pieces
  let pinned = board.pinned
  let checkers = board.checkers
  -- 384 to 390
  let capture_kind : ℕ → UnCaptureKind = λ src. if from_square src & pinned != EMPTY then Necessary else Optional
  -- 392 to 410
  when (nb_checkers T == 0) do
    let check_mask = Self.pseudo_legals opp_ksq retracting_color combined (! EMPTY)
    for pieces λ src. do
      let targets = Self.pseudo_legals src retracting_color combined (! combined & mask) & ! check_mask
      when (targets != EMPTY) (push (entry_of src targets (capture_kind src) false))
  -- 412 to 426
  when (nb_checkers T == 1 and checkers & pieces != EMPTY) do
    let src = to_square checkers
    let targets = Self.pseudo_legals src retracting_color combined (! combined & mask)
    when (targets != EMPTY) (push (entry_of src targets Optional false))
  -- 428 to 446
  when (nb_checkers T == 1 and checkers & pieces == EMPTY) do
    for pieces λ src. do
      let targets = Self.pseudo_legals src retracting_color combined (! combined & mask) & between_of (to_square checkers) opp_ksq
      when (targets != EMPTY) (push (entry_of src targets (capture_kind src) false))
  -- 449 to 468
  when (nb_checkers T == 2 and checkers & pieces != EMPTY and checkers & ! pieces != EMPTY) do
    let src = to_square (checkers & pieces)
    let check_mask = Self.pseudo_legals opp_ksq retracting_color combined (! EMPTY)
    let targets = between_of (to_square (checkers & ! pieces)) opp_ksq & Self.pseudo_legals src retracting_color combined (! combined & mask) & ! check_mask
    when (targets != EMPTY) (push (entry_of src targets Optional false))
