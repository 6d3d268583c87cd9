use mathlib.Core.Path.{◌≡◌}
use lib.ListN.{drop}
use Rattle.position_text.specs.inner.Reading.{run_of, start_of}
use Rattle.position_text.proofs.inner.walk.Given as goal

abbrev pub invariant-loop-b : goal.invariant-loop-b
invariant-loop-b l = run_of l.s (drop l.b-index l.t) ≡ run_of start_of l.t
