-- `board::no_board` meets its contract.
use Rattle.board.proofs.no_board.Goals as goal

pub returns : goal.returns
returns c = rw c.terms_of-terms.ensures
