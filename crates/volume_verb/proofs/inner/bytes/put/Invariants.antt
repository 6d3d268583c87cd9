use Rattle.puts.specs.inner.Growing.{Grows}
use Rattle.volume_verb.proofs.inner.bytes.put.Given as goal

abbrev pub invariant-loop-b : goal.invariant-loop-b
invariant-loop-b l = Grows 0 l.len
