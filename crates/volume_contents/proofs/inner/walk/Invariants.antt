use Rattle.volume_contents.proofs.Walking.{Sofar}
use Rattle.volume_contents.proofs.inner.walk.Given as goal

abbrev pub invariant-loop-j : goal.invariant-loop-j
invariant-loop-j l = Sofar l.back l.n l.from l.last l.s l.at l.rows l.before l.j
