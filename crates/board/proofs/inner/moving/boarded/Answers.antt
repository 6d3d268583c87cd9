-- `board::inner::moving::boarded` meets its contract.
use Rattle.board.specs.inner.Gates.{boarded_of}
use Rattle.board.proofs.inner.moving.boarded.Goals as goal

pub returns : goal.returns
unfolding boarded_of
returns c = c.worked_after.ensures
