-- `text::inner::read` meets its contract.
use Rattle.text.proofs.RoundTrip.{read_in, read_out}
use Rattle.text.proofs.inner.read.Goals as goal

pub returns-in-OutOfForm : goal.returns-in-OutOfForm
returns-in-OutOfForm c = read_out _ _ _ _ c.read_raw-raw.ensures c.in-OutOfForm.is c.board_by.ensures

pub returns-in-InForm : goal.returns-in-InForm
returns-in-InForm c = read_in _ _ _ _ c.read_raw-raw.ensures c.in-InForm.is c.board_from.ensures
