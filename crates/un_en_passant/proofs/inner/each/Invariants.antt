use Rattle.un_en_passant.specs.UnEnPassants.{passant_of}
use Rattle.retraction_list.proofs.Pushing.{Pushing}
use Rattle.un_en_passant.proofs.inner.each.Given as goal

abbrev pub invariant-loop-src : goal.invariant-loop-src
invariant-loop-src l = Pushing (passant_of l.v l.n) l.initial.out l.set l.out l.src-iterator.left
