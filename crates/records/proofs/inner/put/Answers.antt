-- `records::inner::put` meets its contract.
use native.Mathlib.Omega.{arith}
use Rattle.records.proofs.Writing.{put_count, put_room}
use Rattle.records.proofs.inner.put.Goals as goal

pub returns-in-Ok : goal.returns-in-Ok
returns-in-Ok c = put_count c.args.p c.args.half c.args.full c.args.out.now _ _ _ (omega arith) (omega arith) c.put_record-n.ensures.1 c.put_bytes-done.ensures _ c.in-Ok.is

pub returns-in-Err : goal.returns-in-Err
returns-in-Err c = put_room c.args.p c.args.half c.args.full c.args.out.now _ _ _ (omega arith) (omega arith) c.put_record-n.ensures.1 c.put_bytes-done.ensures _ c.in-Err.is
