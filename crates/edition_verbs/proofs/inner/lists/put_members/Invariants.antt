use Rattle.puts.specs.inner.Growing.{Grows}
use Rattle.edition_verbs.proofs.inner.lists.put_members.Given as goal

abbrev pub invariant-loop-slot : goal.invariant-loop-slot
invariant-loop-slot l = Grows l.len l.n
