use Rattle.puts.specs.inner.Growing.{Grows}
use Rattle.cursor_verbs.proofs.inner.presses.put_places.Given as goal

abbrev pub invariant-loop-i : goal.invariant-loop-i
invariant-loop-i l = Grows l.len l.n
