use Rattle.puts.specs.inner.Growing.{Grows}
use Rattle.desks_verb.proofs.inner.put_words.Given as goal

abbrev pub invariant-loop-i : goal.invariant-loop-i
invariant-loop-i l = Grows l.len l.n
