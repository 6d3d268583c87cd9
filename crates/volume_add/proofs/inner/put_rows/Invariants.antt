use Rattle.volume_make.proofs.Rows.{Rows}
use Rattle.volume_add.specs.inner.Longer.{carried}
use Rattle.volume_add.proofs.inner.put_rows.Given as goal

abbrev pub invariant-loop-i : goal.invariant-loop-i
invariant-loop-i l = Rows (carried l.v l.n) 6 8 l.initial.out l.i l.out
