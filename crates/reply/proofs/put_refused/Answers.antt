-- `reply::put_refused` meets its contract.
use Rattle.reply.proofs.put_refused.Goals as goal

pub returns : goal.returns
returns c = rw c.number.ensures at c.put_number.ensures
