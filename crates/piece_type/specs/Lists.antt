-- `enumerate_retractions` (retraction_gen.rs, 231 to 272), and the list of `is_limited_in_retractions` (289 to 295).
use Rattle.std.specs.Prelude.{false, List, ◌≡◌, ℕ, ◌<◌, ◌^◌, ◌==◌, if◌then◌else◌}
use Rattle.squares.specs.Squares.{file, size}
use Rattle.geometry.specs.Colors.{opp}
use Rattle.laws.specs.declared.EnPassantFlag.{EnPassantFlag}
use Rattle.laws.specs.declared.EnPassantFlag.TheVariants.{Any, Some, None}
use Rattle.laws.specs.declared.Board.{Board}
use Rattle.retraction_list.specs.declared.SourceAndTargets.{SourceAndTargets}
use Rattle.retraction_list.specs.declared.UnCaptureKind.TheVariants.{Forbidden}
use Rattle.retraction_list.specs.Entries.{entry_of}
use Rattle.geometry.specs.Chess.{file_set, rank_set}
use Rattle.piece_type.specs.Bitboards.{◌&◌, !◌, EMPTY}
use Rattle.piece_type.specs.Squares.{to_second_rank}
use Rattle.piece_type.specs.Boards.{color_combined}
use Rattle.piece_type.specs.Statements.{Run, ◌>>◌, push, skip, from_new}
use Rattle.piece_type.specs.PieceTypes.{NotInCheck, InSimpleCheck, InDoubleCheck, BishopType, RookType, QueenType}
use Rattle.piece_type.specs.Sliders as sliders
use Rattle.piece_type.specs.Pawns as pawns
use Rattle.piece_type.specs.Knights as knights
use Rattle.piece_type.specs.Kings as kings

-- `if let EnPassantFlag::Some(src) = board.en_passant() { named; return retraction_list; } rest`
abbrev pub if_named : EnPassantFlag → (ℕ → Run) → Run → Run
if_named (Some src) named rest = named src
if_named Any named rest = rest
if_named None named rest = rest

-- 231 to 272
unfoldable pub enumerate_retractions : Board → List SourceAndTargets
enumerate_retractions board = from_new do
  let checkers = board.checkers
  let mask = ! color_combined board board.turn
  -- 236 to 246
  if_named board.passant (λ src. push (entry_of src (file_set (file src) & rank_set (to_second_rank (opp board.turn))) Forbidden false)) do
    -- 248 to 269
    if checkers == EMPTY
        then (do
          pawns.legals NotInCheck board mask
          knights.legals NotInCheck board mask
          sliders.legals BishopType NotInCheck board mask
          sliders.legals RookType NotInCheck board mask
          sliders.legals QueenType NotInCheck board mask
          kings.legals NotInCheck board mask)
        else if size checkers == 1
        then (do
          pawns.legals InSimpleCheck board mask
          knights.legals InSimpleCheck board mask
          sliders.legals BishopType InSimpleCheck board mask
          sliders.legals RookType InSimpleCheck board mask
          sliders.legals QueenType InSimpleCheck board mask
          kings.legals InSimpleCheck board mask)
        else if size checkers == 2
        then (do
          pawns.legals InDoubleCheck board mask
          knights.legals InDoubleCheck board mask
          sliders.legals BishopType InDoubleCheck board mask
          sliders.legals RookType InDoubleCheck board mask)
        else skip

-- 289 to 295, and 312 to 318 of the flipped board
unfoldable pub limited_retractions : Board → List SourceAndTargets
limited_retractions board = from_new do
  let mask = ! color_combined board board.turn
  knights.legals NotInCheck board mask
  sliders.legals BishopType NotInCheck board mask
  sliders.legals RookType NotInCheck board mask
  sliders.legals QueenType NotInCheck board mask
  kings.legals NotInCheck board mask

-- what the Rust's types say of a board: a set has 64 squares, and a named square is one of them
pub record Typed (board : Board) : Type 0 where
  pub checkers_fit : board.checkers < 2 ^ 64
  pub square_fits : (sq : ℕ) → board.passant ≡ Some sq → sq < 64
