-- `history_reply::inner::answer_with` meets its contract.
use Rattle.history_reply.proofs.Spoken.{text_refused, text_told}
use Rattle.history_reply.proofs.inner.answer_with.Goals as goal

pub returns-in-Err : goal.returns-in-Err
returns-in-Err c = text_refused _ _ c.read-r.ensures _ _ c.in-Err.is c.put_refused.ensures

pub returns-in-Ok : goal.returns-in-Ok
returns-in-Ok c = text_told _ _ c.read-r.ensures _ c.in-Ok.is _ c.history_of.ensures c.put_history.ensures
