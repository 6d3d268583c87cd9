-- `desks::inner::fetch_at` meets its contract.
use Rattle.desks.proofs.Calling.{past_free, unmarked_free, marked_held, fetch_absent, fetch_held}
use Rattle.desks.proofs.inner.fetch_at.Goals as goal

pub returns-then-n-number : goal.returns-then-n-number
returns-then-n-number c = fetch_absent c.args.table.now c.args.first c.args.n c.args.number (past_free c.args.table.now c.args.first c.args.n c.args.number c.if-n-number.true)

pub returns-then-table-k-eq0 : goal.returns-then-table-k-eq0
returns-then-table-k-eq0 c = fetch_absent c.args.table.now c.args.first c.args.n c.args.number (unmarked_free c.args.table.now c.args.first c.args.n c.args.number c.if-n-number.false c.if-table-k-eq0.true)

pub returns : goal.returns
returns c = fetch_held c.args.table.now c.args.first c.args.n c.args.number c.tested.result _ _ (marked_held c.args.table.now c.args.first c.args.n c.args.number c.if-n-number.false c.if-table-k-eq0.false) c.words_at-w.ensures c.board_read-b.ensures c.tested.ensures
