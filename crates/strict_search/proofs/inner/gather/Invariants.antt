use Rattle.laws.specs.Boards.{pos_at}
use Rattle.strict_search.proofs.Sourcing.{Gathered}
use Rattle.strict_search.proofs.inner.gather.Given as goal

abbrev pub invariant-loop-s : goal.invariant-loop-s
invariant-loop-s l = Gathered (pos_at l.p) l.kept l.n l.s
