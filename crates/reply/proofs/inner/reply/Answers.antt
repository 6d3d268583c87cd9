-- `reply::inner::reply` meets its contract.
use Rattle.text.proofs.RoundTrip.{read_accepted}
use Rattle.reply.proofs.Spoken.{reply_refused, reply_accepted}
use borrow.Author.Rules.{rules}
use Rattle.reply.proofs.inner.reply.Goals as goal

pub put_board-requires : goal.put_board-requires
put_board-requires c = (c.requires, (read_accepted _ _ _ c.read-b.ensures c.in-Ok.is).0, search rules, search rules)

pub returns-in-Err : goal.returns-in-Err
returns-in-Err c = reply_refused _ _ _ c.read-b.ensures _ c.in-Err.is c.put_refused.ensures

pub returns-in-Ok : goal.returns-in-Ok
returns-in-Ok c = reply_accepted _ _ _ c.read-b.ensures c.in-Ok.is c.put_board.ensures
