-- `board::inner::board_by` meets its contract.
use Rattle.board.proofs.inner.board_by.Goals as goal

pub returns : goal.returns
returns c = rw c.kept-board.ensures
