-- `text::print` meets its contract.
use Rattle.text.proofs.Printing.{not_printed, printed_so}
use Rattle.text.proofs.print.Goals as goal

pub returns-in-Err : goal.returns-in-Err
returns-in-Err c = not_printed _ _ c.gate-v.ensures c.in-Err.r c.in-Err.is

pub returns-in-Ok : goal.returns-in-Ok
returns-in-Ok c = printed_so _ _ c.gate-v.ensures c.print.result c.told.result c.in-Ok.is c.print.ensures c.told.ensures
