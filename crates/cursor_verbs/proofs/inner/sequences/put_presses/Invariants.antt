use Rattle.puts.specs.inner.Growing.{Grows}
use Rattle.cursor_verbs.proofs.inner.sequences.put_presses.Given as goal

abbrev pub invariant-loop : goal.invariant-loop
invariant-loop l = Grows 0 l.n
