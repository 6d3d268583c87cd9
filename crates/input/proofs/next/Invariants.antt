-- What the reads so far come to, whatever was unread before them; each turn is one of the reads that may be made.
use Prim.Native.Nat.{◌-◌}
use Rattle.chunks.specs.inner.Splitting.{Fit}
use Rattle.input.proofs.Searched.{Going}
use Rattle.input.proofs.next.Given as goal

abbrev pub invariant-loop : goal.invariant-loop
invariant-loop g l = Fit l.p × Going l.fn.chunk l.fn.line l.fn.c l.chunk l.line l.p (18446744073709551615 - l.counter)
