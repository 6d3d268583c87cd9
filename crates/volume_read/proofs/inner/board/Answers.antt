use mathlib.Core.Path.{sym, ◌∙◌}
use Rattle.volume_read.specs.Reading.{bodiless, unjudged}
use Rattle.volume_read.proofs.Boards.{has_board, has_none}
use Rattle.volume_read.proofs.inner.board.Goals as goal

pub returns-in-OutOfForm : goal.returns-in-OutOfForm
returns-in-OutOfForm c = bodiless (has_none c.args.v.now c.args.n c.args.i c.requires.0 c.requires.1 c.board_at-raw.result c.board_at-raw.ensures c.in-OutOfForm.is)

pub returns-in-Err : goal.returns-in-Err
returns-in-Err c = unjudged c.board_at-raw.result.position _ (has_board c.args.v.now c.args.n c.args.i c.requires.0 c.requires.1 c.board_at-raw.result c.board_at-raw.ensures c.in-InForm.is) (sym c.judge-verdict.ensures ∙ c.in-Err.is)
