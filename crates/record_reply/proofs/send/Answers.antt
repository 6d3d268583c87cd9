-- `record_reply::send` meets its contract.
use Rattle.text.proofs.RoundTrip.{read_accepted}
use Rattle.record_reply.proofs.Spoken.{send_refused, send_accepted}
use Rattle.record_reply.proofs.send.Goals as goal

pub turned-other-requires : goal.turned-other-requires
turned-other-requires c = (read_accepted _ _ _ c.read-r.ensures c.in-Ok.is).0

pub returns-in-Err : goal.returns-in-Err
returns-in-Err c = send_refused _ _ c.read-r.ensures _ _ _ c.in-Err.is c.put_refused.ensures

pub returns-in-Ok : goal.returns-in-Ok
returns-in-Ok c = send_accepted _ _ c.read-r.ensures _ _ c.in-Ok.is _ c.turned-other.ensures c.put_record.ensures
