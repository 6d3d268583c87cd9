-- `desks::inner::put_at` meets its contract.
use Rattle.desks.proofs.Calling.{put_done, put_full}
use Rattle.desks.proofs.inner.put_at.Goals as goal

pub returns-then-i-n : goal.returns-then-i-n
returns-then-i-n c = put_done c.args.table.now c.args.first c.args.n c.args.b _ c.lowest-i.ensures _ _ c.words_of-w.ensures c.store.ensures c.if-i-n.true

pub returns : goal.returns
returns c = put_full c.args.table.now c.args.first c.args.n c.args.b _ c.lowest-i.ensures c.if-i-n.false
