-- `desks::inner::lowest` meets its contract.
use native.Mathlib.Omega.{arith}
use Rattle.desks.proofs.Calling.{low_start, low_found, low_next, low_none}
use Rattle.desks.proofs.inner.lowest.Goals as goal

pub loop-i-init : goal.loop-i-init
loop-i-init c = low_start _ _ _

pub returns-then-table-first-eq0 : goal.returns-then-table-first-eq0
returns-then-table-first-eq0 c = low_found c.args.table.now c.args.first c.args.n c.loop-i.i c.loop-i.invariant (omega arith) c.if-table-first-eq0.true

pub loop-i-preserved : goal.loop-i-preserved
loop-i-preserved c = low_next c.args.table.now c.args.first c.args.n c.loop-i.i c.loop-i.invariant (omega arith) c.if-table-first-eq0.false

pub returns : goal.returns
returns c = low_none c.args.table.now c.args.first c.args.n c.loop-i.i c.loop-i.invariant (omega arith)
