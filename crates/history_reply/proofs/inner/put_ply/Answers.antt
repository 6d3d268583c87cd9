-- `history_reply::inner::put_ply` meets its contract.
use Rattle.output.proofs.Added.{used_adds}
use Rattle.history_reply.proofs.Shown.{ply_added}
use Rattle.history_reply.proofs.inner.put_ply.Goals as goal

pub returns : goal.returns
returns c = let a = c.args in ply_added a.out.now _ _ a.len _ _ a.r _ c.requires c.fields_of-fields.ensures (used_adds _ _ _ _ _ c.put_bytes.ensures _ c.unwrap_or-a.ensures) (used_adds _ _ _ _ _ c.put_bytes-2.ensures _ c.unwrap_or.ensures)
