use mathlib.Core.Bool.{not}
use Rattle.geometry.specs.Lines.{between}
use Rattle.squares.proofs.Unions.{Uniting}
use Rattle.exposure.proofs.inner.leaving_open.Given as goal

abbrev pub invariant-loop-a : goal.invariant-loop-a
invariant-loop-a l = Uniting (λ a j. not (between a l.k j)) l.from l.a-iterator.left l.r
