-- The blanket `legals` (piece_type.rs, 17 to 157), which bishops, rooks and queens use.
use Rattle.std.specs.Prelude.{false, ℕ, ◌==◌, if◌then◌else◌}
use Rattle.squares.specs.Tests.{◌and◌}
use Rattle.geometry.specs.Colors.{opp}
use Rattle.geometry.specs.Lines.{between_of}
use Rattle.laws.specs.declared.Piece.TheVariants.{Queen}
use Rattle.laws.specs.Men.{kind_place}
use Rattle.laws.specs.Positions.{holds}
use Rattle.laws.specs.declared.Side.TheVariants.{Short as short, Long as long}
use Rattle.laws.specs.declared.Board.{Board}
use Rattle.retraction_list.specs.declared.UnCaptureKind.{UnCaptureKind}
use Rattle.retraction_list.specs.declared.UnCaptureKind.TheVariants.{Optional, Necessary}
use Rattle.retraction_list.specs.Entries.{entry_of}
use Rattle.geometry.specs.Chess.{line_of}
use Rattle.piece_type.specs.Bitboards.{◌&◌, !◌, ◌⊻◌, ◌!=◌, EMPTY, from_square, to_square}
use Rattle.piece_type.specs.Squares.{to_my_backrank, make_square}
use Rattle.piece_type.specs.Boards.{pieces_of, color_combined, castle_rights, king_square}
use Rattle.piece_type.specs.Statements.{Run, ◌>>◌, push, when, for}
use Rattle.piece_type.specs.PieceTypes.{PieceType, CheckType, nb_checkers}

unfoldable pub legals : PieceType → CheckType → Board → ℕ → Run
legals Self T board mask = do
  -- 21 to 28
  let combined = board.combined
  let retracting_color = opp board.turn
  let retracting_pieces = color_combined board retracting_color
  let opp_ksq = king_square board (opp retracting_color)
  let pieces = pieces_of board Self.into_piece & retracting_pieces
  let pinned = board.pinned
  let checkers = board.checkers
  -- 30 to 36
  let capture_kind : ℕ → UnCaptureKind = λ src. if from_square src & pinned != EMPTY then Necessary else Optional
  -- 38 to 50: `has_kingside`, `has_queenside`, `File::H`, `File::A`
  let castling_rooks = EMPTY
  let castling_rooks =
      if holds (castle_rights board retracting_color) short then castling_rooks ⊻ from_square (make_square (to_my_backrank retracting_color) 7) else castling_rooks
  let castling_rooks =
      if holds (castle_rights board retracting_color) long then castling_rooks ⊻ from_square (make_square (to_my_backrank retracting_color) 0) else castling_rooks
  -- 52 to 70
  when (nb_checkers T == 0) do
    let check_mask = Self.pseudo_legals opp_ksq retracting_color combined (! EMPTY)
    for (pieces & ! castling_rooks) λ src. do
      let targets = Self.pseudo_legals src retracting_color combined (! combined & mask) & ! check_mask
      when (targets != EMPTY) (push (entry_of src targets (capture_kind src) false))
  -- 72 to 107
  when (nb_checkers T == 1 and checkers & pieces & ! castling_rooks != EMPTY) do
    let src = to_square checkers
    let check_mask = Self.pseudo_legals opp_ksq retracting_color (combined & ! checkers) (! EMPTY)
    let targets_with_optional_capture = Self.pseudo_legals src retracting_color combined (! combined & mask) & ! check_mask
    when (targets_with_optional_capture != EMPTY) (push (entry_of src targets_with_optional_capture (capture_kind src) false))
    let check_mask = Self.pseudo_legals opp_ksq retracting_color combined (! EMPTY)
    let targets_with_necessary_capture = line_of opp_ksq src & Self.pseudo_legals src retracting_color combined (! combined & mask) & ! check_mask
    when (targets_with_necessary_capture != EMPTY) (push (entry_of src targets_with_necessary_capture Necessary false))
  -- 109 to 131
  when (nb_checkers T == 1 and kind_place Self.into_piece != kind_place Queen and checkers & pieces == EMPTY) do
    let check_mask = Self.pseudo_legals opp_ksq retracting_color combined (! EMPTY)
    for (pieces & ! castling_rooks) λ src. do
      let targets = Self.pseudo_legals src retracting_color combined (! combined & mask) & between_of (to_square checkers) opp_ksq & ! check_mask
      when (targets != EMPTY) (push (entry_of src targets (capture_kind src) false))
  -- 134 to 156
  when (nb_checkers T == 2 and checkers & pieces & ! castling_rooks != EMPTY and checkers & ! pieces != EMPTY) do
    let src = to_square (checkers & pieces)
    let check_mask = Self.pseudo_legals opp_ksq retracting_color combined (! EMPTY)
    let targets = between_of (to_square (checkers & ! pieces)) opp_ksq & Self.pseudo_legals src retracting_color combined (! combined & mask) & ! check_mask
    when (targets != EMPTY) (push (entry_of src targets (capture_kind src) false))
