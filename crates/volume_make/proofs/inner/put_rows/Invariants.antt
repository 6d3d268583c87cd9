use Rattle.volume_make.specs.inner.Filling.{plain_row}
use Rattle.volume_make.proofs.Rows.{Rows}
use Rattle.volume_make.proofs.inner.put_rows.Given as goal

abbrev pub invariant-loop-i : goal.invariant-loop-i
invariant-loop-i l = Rows (plain_row l.n) 6 8 l.initial.out l.i l.out
