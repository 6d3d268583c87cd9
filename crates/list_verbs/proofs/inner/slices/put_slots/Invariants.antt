use Rattle.puts.specs.inner.Growing.{Grows}
use Rattle.list_verbs.proofs.inner.slices.put_slots.Given as goal

abbrev pub invariant-loop-i : goal.invariant-loop-i
invariant-loop-i l = Grows l.len l.n
