use Rattle.fields.specs.inner.Places.{Onward}
use Rattle.fields.proofs.inner.past.Given as goal

abbrev pub invariant-loop : goal.invariant-loop
invariant-loop l = Onward l.line l.at l.to
