-- `records::write` meets its contract.
use Rattle.records.proofs.Writing.{not_written, written_so}
use Rattle.records.proofs.write.Goals as goal

pub returns-in-Err : goal.returns-in-Err
returns-in-Err c = not_written c.args.b c.args.half c.args.full c.args.out.now _ c.gate-v.ensures _ c.in-Err.is

pub returns-in-Ok : goal.returns-in-Ok
returns-in-Ok c = written_so c.args.b c.args.half c.args.full c.args.out.now _ c.gate-v.ensures _ _ c.in-Ok.is c.write.ensures
