-- `board::inner::worked` meets its contract.
use Rattle.board.proofs.inner.worked.Goals as goal

pub returns : goal.returns
returns c = rw (c.occupied-combined.ensures, c.checkers-checkers.ensures, c.pins-pinned.ensures)
