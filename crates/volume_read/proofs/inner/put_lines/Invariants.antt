use Rattle.volume_read.proofs.Lining.{Lining}
use Rattle.volume_read.proofs.inner.put_lines.Given as goal

abbrev pub invariant-loop-i : goal.invariant-loop-i
invariant-loop-i l = Lining l.v l.initial.out l.n l.i l.to l.out
