-- `board::RetractableBoard::new` meets its contract.
use Rattle.board.specs.Gate.{position_from}
use Rattle.board.proofs.Passing.{new_boards}
use Rattle.board.proofs.RetractableBoard.new.Goals as goal

pub returns : goal.returns
returns c = let a = c.args in rw (c.board_from.ensures, c.terms_of-terms.ensures) (new_boards (position_from a.pieces a.colors a.turn a.white a.black a.passant a.edition))
