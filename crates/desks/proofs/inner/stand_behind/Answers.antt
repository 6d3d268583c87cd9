-- `desks::inner::stand_behind` meets its contract.
use Rattle.desks.proofs.inner.stand_behind.Goals as goal

pub returns-in-Err : goal.returns-in-Err
returns-in-Err c = rw c.in-Err.is

pub returns-in-Ok : goal.returns-in-Ok
returns-in-Ok c = rw c.in-Ok.is c.stand.ensures
