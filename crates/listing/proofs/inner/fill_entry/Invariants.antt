use Rattle.squares.specs.Members.{members, concat}
use Rattle.listing.specs.inner.Giving.{of_target}
use Rattle.listing.proofs.Filling.{Filling}
use Rattle.listing.proofs.inner.fill_entry.Given as goal

abbrev pub invariant-loop-target : goal.invariant-loop-target
invariant-loop-target l = Filling (concat (of_target l.s l.p l.us) (members l.fn.e.targets)) l.initial.slots l.start l.slots l.n (concat (of_target l.s l.p l.us) (members l.target-iterator.left))
