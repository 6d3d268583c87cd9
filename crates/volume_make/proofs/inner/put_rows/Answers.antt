use mathlib.Core.Path.{refl}
use native.Mathlib.Omega.{arith}
use Rattle.volume_make.specs.inner.Filling.{plain_row}
use Rattle.volume_make.proofs.Rows.{rows_none, rows_more, rows_done}
use Rattle.volume_make.proofs.inner.put_rows.Goals as goal

pub loop-i-init : goal.loop-i-init
loop-i-init c = rows_none (plain_row c.args.n) 6 8 c.args.out.now (omega arith)

pub loop-i-preserved : goal.loop-i-preserved
loop-i-preserved c = rows_more (plain_row c.args.n) 6 8 _ c.loop-i.i c.row_of.result (λ j. refl) c.loop-i.invariant (omega arith) c.row_of.ensures.0 refl c.put.ensures

pub returns : goal.returns
returns c = rows_done (plain_row c.args.n) 6 8 c.args.n c.loop-i.i (λ j. refl) (omega arith) c.loop-i.invariant
