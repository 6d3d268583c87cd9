use mathlib.Core.Path.{◌≡◌}
use Prim.Native.Nat.{◌-◌}
use Rattle.chunks.specs.Newlines.{stop_from}
use Rattle.chunks.proofs.inner.find.Given as goal

abbrev pub invariant-loop-i : goal.invariant-loop-i
invariant-loop-i l = stop_from l.s l.at (l.end - l.at) ≡ stop_from l.s l.i (l.end - l.i)
