use Rattle.officers.specs.Officers.{from_of}
use Rattle.retraction_list.proofs.Pushing.{Pushing}
use Rattle.officers.proofs.inner.each.Given as goal

abbrev pub invariant-loop-src : goal.invariant-loop-src
invariant-loop-src l = Pushing (from_of l.v l.kind l.allowed) l.initial.out l.set l.out l.src-iterator.left
