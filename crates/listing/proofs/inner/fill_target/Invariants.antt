use Rattle.listing.specs.inner.Giving.{of_target}
use Rattle.listing.proofs.Filling.{Filling}
use Rattle.listing.proofs.Walking.{Low}
use Rattle.listing.proofs.inner.fill_target.Given as goal

abbrev pub invariant-loop-u : goal.invariant-loop-u
invariant-loop-u l = Low l.u-iterator.left × Filling (of_target l.source l.unpromotion l.us l.target) l.initial.slots l.start l.slots l.n (of_target l.source l.unpromotion l.u-iterator.left l.target)
