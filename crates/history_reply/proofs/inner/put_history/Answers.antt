-- `history_reply::inner::put_history` meets its contract.
use Rattle.output.proofs.Added.{used_adds}
use Rattle.history_reply.proofs.Shown.{past_depth, under_room, past_shown, none_shown, refused_shown}
use Rattle.history_reply.proofs.inner.put_history.Goals as goal

pub put_plies-requires : goal.put_plies-requires
put_plies-requires c = let a = c.args in let p = past_depth _ _ _ _ c.requires c.in-Ok-Some.is (rw c.in-Ok-Some.is at c.in-Ok-Some.field-0-is) in (under_room a.b a.out.now _ _ c.put_text-n.ensures.0 c.put_text-n.ensures.1, p.0, p.1)

pub returns-in-Ok-Some : goal.returns-in-Ok-Some
returns-in-Ok-Some c = let a = c.args in let p = past_depth _ _ _ _ c.requires c.in-Ok-Some.is (rw c.in-Ok-Some.is at c.in-Ok-Some.field-0-is) in past_shown a.b a.out.now _ _ c.put_text-n.ensures.0 c.put_text-n.ensures.1 a.depth _ _ _ _ c.in-Ok-Some.is (rw c.in-Ok-Some.is at c.in-Ok-Some.field-0-is) p.0 p.1 c.put_plies.ensures

pub returns-in-Ok-None : goal.returns-in-Ok-None
returns-in-Ok-None c = let a = c.args in none_shown a.b a.out.now _ _ c.put_text-n-in-Ok-None.ensures.0 c.put_text-n-in-Ok-None.ensures.1 a.depth _ _ _ c.in-Ok-None.is (rw c.in-Ok-None.is at c.in-Ok-None.field-0-is) (used_adds _ _ _ _ _ c.put_bytes.ensures _ c.unwrap_or.ensures)

pub returns-in-Err : goal.returns-in-Err
returns-in-Err c = let a = c.args in refused_shown a.b a.depth _ _ a.out.now _ _ _ c.in-Err.is c.number.ensures c.put_number.ensures
