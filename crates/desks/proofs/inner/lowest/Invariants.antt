use Rattle.desks.proofs.Calling.{Passed}
use Rattle.desks.proofs.inner.lowest.Given as goal

abbrev pub invariant-loop-i : goal.invariant-loop-i
invariant-loop-i l = Passed l.table l.first l.n l.i
