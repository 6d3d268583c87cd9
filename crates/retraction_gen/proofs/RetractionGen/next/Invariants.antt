use mathlib.Core.Path.{◌≡◌}
use Rattle.retraction_gen.specs.Cursors.{step_of, next_of, fuel}
use Rattle.retraction_gen.proofs.RetractionGen.next.Given as goal

abbrev pub invariant-loop-r : goal.invariant-loop-r
invariant-loop-r l = next_of l.initial.self ≡ step_of l.self

abbrev pub decreases-loop-r : goal.decreases-loop-r
decreases-loop-r l = fuel l.self
