-- A board in the other edition.
use Rattle.laws.specs.Positions.{terms_of}
use Rattle.laws.specs.Editions.{other_edition, turned_state}
use Rattle.board.specs.declared.RetractableBoard.{RetractableBoard}
use Rattle.board.specs.Gate.{men_on}

-- the Laws' `turned` of what the board shows, its worked-out sets kept
abbrev pub turned_on : RetractableBoard → RetractableBoard
turned_on b = record {
  pieces = b.pieces;
  colors = b.colors;
  combined = b.combined;
  turn = b.turn;
  white = b.white;
  black = b.black;
  pinned = b.pinned;
  checkers = b.checkers;
  passant = turned_state b.terms.edition (men_on b) b.turn b.passant;
  terms = terms_of (other_edition b.terms.edition);
}
