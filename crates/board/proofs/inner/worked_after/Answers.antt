-- `board::inner::worked_after` meets its contract.
use mathlib.Core.Path.{◌∙◌}
use Rattle.board.proofs.inner.worked_after.Goals as goal

pub worked-b-requires : goal.worked-b-requires
worked-b-requires c = (c.requires.0, c.requires.1 c.in-Ok.is)

pub returns-in-Err : goal.returns-in-Err
returns-in-Err c = c.board_by.ensures ∙ rw c.in-Err.is

pub returns-in-Ok : goal.returns-in-Ok
returns-in-Ok c = c.board_by-in-Ok.ensures ∙ rw (c.worked-b.ensures, c.in-Ok.is)
