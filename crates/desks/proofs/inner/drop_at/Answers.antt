-- `desks::inner::drop_at` meets its contract.
use Rattle.desks.proofs.Calling.{past_free, unmarked_free, marked_held, drop_absent, drop_held}
use Rattle.desks.proofs.inner.drop_at.Goals as goal

pub returns-then-n-number : goal.returns-then-n-number
returns-then-n-number c = drop_absent _ _ _ _ (past_free c.args.table.now c.args.first c.args.n c.args.number c.if-n-number.true)

pub returns-then-table-k-eq0 : goal.returns-then-table-k-eq0
returns-then-table-k-eq0 c = drop_absent _ _ _ _ (unmarked_free c.args.table.now c.args.first c.args.n c.args.number c.if-n-number.false c.if-table-k-eq0.true)

pub returns : goal.returns
returns c = drop_held _ _ _ _ _ (marked_held c.args.table.now c.args.first c.args.n c.args.number c.if-n-number.false c.if-table-k-eq0.false)
