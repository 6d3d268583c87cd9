use Rattle.puts.specs.inner.Growing.{Grows}
use Rattle.cursor_verbs.proofs.inner.entries.put_cursor.Given as goal

abbrev pub invariant-loop-e : goal.invariant-loop-e
invariant-loop-e l = Grows 0 l.n
