-- `board::inner::kept` meets its contract.
use Rattle.board.proofs.inner.kept.Goals as goal

pub returns-in-Err : goal.returns-in-Err
returns-in-Err c = rw c.in-Err.is c.no_board.ensures
