-- `record_reply::reply` meets its contract.
use mathlib.Core.Path.{subst}
use Rattle.records.proofs.RoundTrip.{took}
use Rattle.records.specs.Entries.{Reads}
use Rattle.record_reply.proofs.Spoken.{reply_refused, reply_taken}
use borrow.Author.Rules.{rules}
use Rattle.record_reply.proofs.reply.Goals as goal

pub put_board-requires : goal.put_board-requires
put_board-requires c = (c.between_table-t.ensures, (took _ _ _ (subst (Reads c.args.edition c.args.line.now) c.in-Ok.is c.read.ensures)).gate, search rules, search rules)

pub returns-in-Err : goal.returns-in-Err
returns-in-Err c = reply_refused _ _ _ c.read.ensures _ c.in-Err.is _ c.number.ensures c.put_number.ensures

pub returns-in-Ok : goal.returns-in-Ok
returns-in-Ok c = reply_taken _ _ _ c.read.ensures _ c.in-Ok.is c.put_board.ensures
