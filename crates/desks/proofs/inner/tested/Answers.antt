-- `desks::inner::tested` meets its contract.
use Rattle.desks.proofs.Calling.{tested_refused, tested_done}
use Rattle.desks.proofs.inner.tested.Goals as goal

pub returns-in-Err : goal.returns-in-Err
returns-in-Err c = tested_refused c.args.b c.judge-judged.result c.judge-judged.ensures _ c.in-Err.is

pub returns-in-Ok : goal.returns-in-Ok
returns-in-Ok c = tested_done c.args.b c.judge-judged.result c.judge-judged.ensures c.in-Ok.is
