use Rattle.volume_read.proofs.Boards.{Scanning}
use Rattle.volume_read.proofs.inner.scan.Given as goal

abbrev pub invariant-loop-i : goal.invariant-loop-i
invariant-loop-i l = Scanning l.v l.n l.i l.size
