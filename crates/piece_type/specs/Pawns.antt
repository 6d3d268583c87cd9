-- The pawn's own `legals` (piece_type.rs, 198 to 346).
use Rattle.std.specs.Prelude.{Bool, true, false, ℕ, leb, ◌==◌, if◌then◌else◌}
use Rattle.squares.specs.Tests.{◌and◌, ◌or◌}
use Rattle.squares.specs.Squares.{rank}
use Rattle.squares.specs.Members.{members, for_each}
use Rattle.geometry.specs.declared.Color.{Color}
use Rattle.geometry.specs.declared.Color.TheVariants.{White, Black}
use Rattle.geometry.specs.Colors.{opp}
use Rattle.geometry.specs.Lines.{between_of}
use Rattle.laws.specs.declared.Piece.TheVariants.{Pawn}
use Rattle.laws.specs.declared.EnPassantFlag.{EnPassantFlag}
use Rattle.laws.specs.declared.EnPassantFlag.TheVariants.{Any, Some, None}
use Rattle.laws.specs.declared.Edition.{Edition}
use Rattle.laws.specs.declared.Edition.TheVariants.{A, B}
use Rattle.laws.specs.declared.Board.{Board}
use Rattle.retraction_list.specs.declared.UnCaptureKind.TheVariants.{Necessary, Forbidden, UnEnPassant}
use Rattle.retraction_list.specs.Entries.{entry_of}
use Rattle.geometry.specs.Chess.{rank_set, adjacent_files, line_of}
use Rattle.piece_type.specs.Bitboards.{◌&◌, !◌, ◌¦◌, ◌!=◌, EMPTY, from_square, to_square}
use Rattle.piece_type.specs.Squares.{to_my_backrank, to_fourth_rank, to_their_backrank, ubackward, uforward, get_pawn_attacks}
use Rattle.piece_type.specs.Boards.{pieces_of, color_combined, king_square}
use Rattle.piece_type.specs.Statements.{Run, ◌>>◌, push, skip, when, for}
use Rattle.piece_type.specs.PieceTypes.{CheckType, nb_checkers, PawnType}

-- `match board.en_passant()` (243 to 247): `None` asks the test. So it is in edition A, which is the Rust's; "in B a dash lists no double step"
abbrev pub push_unseen : Edition → EnPassantFlag → Bool → Bool
push_unseen v Any test = true
push_unseen A None test = test
push_unseen B None test = false
push_unseen v (Some sq) test = false

-- `match retracting_color` (286 to 289): `Rank::Sixth`, `Rank::Third`
abbrev pub ep_rank_of : Color → ℕ
ep_rank_of White = rank_set 5
ep_rank_of Black = rank_set 2

-- 308 to 333: what the checkers leave of the `targets` of an un-en-passant
unfoldable pub unchecking : CheckType → ℕ → ℕ → ℕ → ℕ → ℕ → ℕ
unchecking T checkers opp_ksq src reappearing_pawn_square targets = do
  if nb_checkers T == 1 and to_square checkers != src
      then (do
        let checking_ray = between_of (to_square checkers) opp_ksq
        if from_square reappearing_pawn_square & checking_ray == EMPTY then targets & checking_ray else targets)
      else if nb_checkers T == 2
      then (do
        if from_square src & checkers != EMPTY
            then (do
              let other_checker = to_square (checkers & ! from_square src)
              if from_square reappearing_pawn_square & between_of other_checker opp_ksq != EMPTY then targets & between_of other_checker opp_ksq else targets)
            else (do
              let rays = for_each (λ rays checker. rays ¦ between_of checker opp_ksq) EMPTY (members checkers)
              let targets = if from_square reappearing_pawn_square & rays == EMPTY then EMPTY else targets
              targets & rays))
      else targets

unfoldable pub legals : CheckType → Board → ℕ → Run
legals T board mask = do
  let Self = PawnType
  -- 202 to 209
  let combined = board.combined
  let retracting_color = opp board.turn
  let retracting_pieces = color_combined board retracting_color
  let opp_ksq = king_square board (opp retracting_color)
  let pieces = pieces_of board Self.into_piece & retracting_pieces
  let pinned = board.pinned
  let checkers = board.checkers
  -- 212 to 225
  let check_mask = get_pawn_attacks opp_ksq (opp retracting_color) (! EMPTY)
  let first_rank = rank_set (to_my_backrank retracting_color)
  let last_rank = rank_set (to_their_backrank retracting_color)
  let candidate_retractors =
      if leb 1 (nb_checkers T) and checkers & (pieces ¦ last_rank) != EMPTY
      then checkers & (pieces ¦ last_rank)
      else if leb (nb_checkers T) 1
      then pieces ¦ last_rank & retracting_pieces & ! from_square (king_square board retracting_color)
      else EMPTY
  -- 226 to 283
  for candidate_retractors λ src. do
    let other_checker_ray =
        if nb_checkers T == 0 or (nb_checkers T == 1 and to_square checkers == src)
        then ! EMPTY
        else (let checker = to_square (checkers & ! from_square src) in between_of checker opp_ksq)
    -- 238 to 265
    let crossed = ubackward retracting_color src
    let targets = from_square crossed
    let enemy_pawns = pieces_of board Pawn & ! retracting_pieces
    let ep_capturers = adjacent_files src & rank_set (rank src)
    let targets =
        if rank src == to_fourth_rank retracting_color
        and push_unseen board.terms.edition board.passant (ep_capturers & enemy_pawns == EMPTY)
        and from_square crossed & combined == EMPTY
        then targets ¦ from_square (ubackward retracting_color crossed)
        else targets
    let targets = targets & (! combined & ! check_mask & ! first_rank & other_checker_ray & mask)
    let targets = if from_square src & pinned != EMPTY then targets & line_of src opp_ksq else targets
    when (targets != EMPTY) (push (entry_of src targets Forbidden (rank src == to_their_backrank retracting_color)))
    -- 268 to 282
    let targets = get_pawn_attacks src (opp retracting_color) (! combined) & ! check_mask & ! first_rank & other_checker_ray & mask
    when (targets != EMPTY) (push (entry_of src targets Necessary (rank src == to_their_backrank retracting_color)))
  -- 286 to 345
  let ep_rank = ep_rank_of retracting_color
  for (ep_rank & pieces) λ src. do
    let reappearing_pawn_square = ubackward retracting_color src
    -- 292 to 296: `continue`
    if from_square (uforward retracting_color src) & combined != EMPTY or from_square reappearing_pawn_square & combined != EMPTY then skip else do
      -- 297 to 306
      let targets = adjacent_files src & rank_set (rank reappearing_pawn_square) & ! combined & ! check_mask & mask
      let targets =
          if from_square src & pinned != EMPTY and from_square reappearing_pawn_square & line_of src opp_ksq == EMPTY
          then targets & line_of src opp_ksq
          else targets
      -- 308 to 344
      let targets = unchecking T checkers opp_ksq src reappearing_pawn_square targets
      when (targets != EMPTY) (push (entry_of src targets UnEnPassant false))
