-- The un-made board is the Rust's, whole.
use mathlib.Core.Path.{◌≡◌, sym, ap₂, ◌∙◌}
use mathlib.Core.Bool.{true}
use borrow.Author.Tests.{eqb-true}
use Rattle.squares.specs.Members.{first_of}
use Rattle.geometry.specs.Colors.{opp}
use Rattle.laws.specs.declared.Piece.{Piece}
use Rattle.laws.specs.declared.Piece.TheVariants.{King}
use Rattle.laws.specs.declared.ChessRetraction.{ChessRetraction}
use Rattle.laws.specs.declared.Board.{Board}
use Rattle.laws.specs.Attacks.{union_of}
use Rattle.laws.specs.Positions.{Pos, retractor}
use Rattle.laws.specs.Acceptance.{accepted}
use Rattle.laws.specs.Unmaking.{unmade}
use Rattle.laws.specs.Boards.{Shaped, Clean, pos_of, board_of, accepted_board}
use Rattle.men.specs.inner.Standing.{men_of}
use Rattle.pins.specs.inner.Kings.{TheKing}
use Rattle.incremental.specs.Found.{found_stored, rust_found, rust_unmade}
use Rattle.squares.proofs.Testing.{left, right}
use Rattle.laws.proofs.Mans.{opp_opp}
use Rattle.laws.proofs.Cleaning.{shaped_clean}
use Rattle.laws.proofs.ManSets.{men_on}
use Rattle.laws.proofs.Retracting.{can_retract}
use Rattle.laws.proofs.Passes.{unmade_passes}
use Rattle.laws.proofs.BoardPasts.{unmade_on}
use Rattle.pins.proofs.OneKing.{first_king}
use Rattle.incremental.proofs.SameMoved.{on_source, piece_is, by_passant, moved_same}
use Rattle.incremental.proofs.SamePins.{pins_same}
use Rattle.incremental.proofs.SameCheckers.{checkers_same}
use Rattle.incremental.proofs.SameFound.{found_is}

-- 2 passes on the un-made board, so `to_square` gives the square of the one king
king_there : (p : Pos) (r : ChessRetraction) → accepted p ≡ true → can_retract p r ≡ true
    → TheKing (unmade p r).men (retractor p) (first_of (men_of (unmade p r).men (retractor p) King))
king_there p r ok can = first_king (unmade p r).men (retractor p) (unmade_passes p r ok can).kings

-- a board of clean men whose union is theirs, accepted by 2 to 6
module _ (b : Board) (r : ChessRetraction) (tidy : Clean b.pieces b.colors) (union : b.combined ≡ union_of (pos_of b).men)
    (ok : accepted (pos_of b) ≡ true) (can : can_retract (pos_of b) r ≡ true) where
  abbrev e : Pos
  e = unmade (pos_of b) r

  abbrev k : Piece
  k = (on_source b r tidy union ok can).0

  pub clean_same : rust_unmade b r ≡ board_of (unmade (pos_of b) r)
  unfolding rust_unmade found_stored
  clean_same =
      (λ i. rust_found (moved_same b r tidy union ok can i) (piece_is b r tidy union ok can i) r (opp b.turn) (sym (opp_opp b.turn) i))
      ∙ found_is e (unmade_on (pos_of b) r (men_on b.pieces b.colors) can) k r
      ∙ ap₂ (found_stored (board_of e))
      (checkers_same (pos_of b) r ok can k (on_source b r tidy union ok can).1 (by_passant b r tidy union ok can) _ king)
      (pins_same e.men e.turn _ king)
    where
      king : TheKing e.men e.turn (first_of (men_of e.men e.turn King))
      king = king_there (pos_of b) r ok can

-- on every accepted board, and every retraction that passes 9 to 12, the Rust's board is that of the un-made position: all nine fields
pub unmade_same : (b : Board) (r : ChessRetraction) → Shaped b → accepted_board b ≡ true → can_retract (pos_of b) r ≡ true → rust_unmade b r ≡ board_of (unmade (pos_of b) r)
unmade_same b r shape ok can =
    clean_same b r (shaped_clean b shape (left _ _ (left _ _ ok)))
    (eqb-true _ _ (left _ _ (left _ _ (right _ _ ok)))) (right _ _ (left _ _ ok)) can
