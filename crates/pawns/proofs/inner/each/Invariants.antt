use Rattle.pawns.specs.Pawns.{from_of}
use Rattle.retraction_list.proofs.Pushing.{Pushing}
use Rattle.pawns.proofs.inner.each.Given as goal

abbrev pub invariant-loop-src : goal.invariant-loop-src
invariant-loop-src l = Pushing (from_of l.v l.n) l.initial.out l.set l.out l.src-iterator.left
