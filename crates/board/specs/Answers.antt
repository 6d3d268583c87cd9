-- What each method answers, and the tests that it makes.
use Rattle.std.specs.Prelude.{List, [], ◌∷◌, ◌++◌, ℕ, ltb, Option, None, Some}
use Rattle.laws.specs.declared.Position.{Position}
use Rattle.laws.specs.declared.EnPassantFlag.{EnPassantFlag}
use Rattle.laws.specs.Men.{Man, empty, man}
use Rattle.laws.specs.Attacks.{union_of, checkers_of, pins_of}
use Rattle.laws.specs.Acceptance.{state_ok}
use Rattle.laws.specs.Boards.{men_in}
use Rattle.refusal.specs.declared.Refusal.TheVariants.{Source, Passant}
use Rattle.refusal.specs.Said.{Test, ◌else◌}
use Rattle.board.specs.declared.RetractableBoard.{RetractableBoard}
use Rattle.board.specs.Gate.{men_on, board_tests}
use Rattle.laws.specs.declared.Piece.{Piece}

-- a position's board, its union, pins and checkers worked out
abbrev pub worked_of : Position → RetractableBoard
worked_of p = record {
  pieces = p.pieces;
  colors = p.colors;
  combined = union_of (men_in p);
  turn = p.turn;
  white = p.white;
  black = p.black;
  pinned = pins_of (men_in p) p.turn;
  checkers = checkers_of (men_in p) p.turn;
  passant = p.passant;
  terms = p.terms;
}

-- "`piece_on` and `is_attacked` test 9 for their square", and `attackers` does: behind 1 to 7
abbrev pub ask_tests : RetractableBoard → ℕ → List Test
ask_tests b sq = board_tests b ++ ((ltb sq 64 else Source) ∷ [])

-- the kind on a square
abbrev pub kind_on : Man → Option Piece
kind_on empty = None
kind_on (man c k) = Some k

-- "`set_en_passant` tests 5 again for its new state (none after unknown is allowed, on its caller's word)"
abbrev pub state_tests : RetractableBoard → EnPassantFlag → List Test
state_tests b st = board_tests b ++ ((state_ok b.terms.edition (men_on b) b.turn st else Passant) ∷ [])

abbrev pub with_passant : RetractableBoard → EnPassantFlag → RetractableBoard
with_passant b st = record {
  pieces = b.pieces;
  colors = b.colors;
  combined = b.combined;
  turn = b.turn;
  white = b.white;
  black = b.black;
  pinned = b.pinned;
  checkers = b.checkers;
  passant = st;
  terms = b.terms;
}
