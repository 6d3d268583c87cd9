use Rattle.laws.specs.Boards.{pos_at}
use Rattle.strict_sets.specs.inner.Parts.{strict_alone}
use Rattle.squares.proofs.Unions.{Uniting}
use Rattle.strict_sets.proofs.inner.asked.tested.Given as goal

abbrev pub invariant-loop-q : goal.invariant-loop-q
invariant-loop-q l = Uniting (strict_alone (pos_at l.p) l.s) l.set l.q-iterator.left l.r
