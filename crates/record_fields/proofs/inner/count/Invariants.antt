use mathlib.Core.Path.{◌≡◌}
use Prim.Native.Nat.{◌≤◌}
use lib.ListN.{drop}
use Rattle.record_fields.specs.inner.Counting.{count_run}
use Rattle.record_fields.proofs.inner.count.Given as goal

abbrev pub invariant-loop-b : goal.invariant-loop-b
invariant-loop-b l = (l.s ≤ 10002) × (count_run l.s (drop l.b-index l.t) ≡ count_run 10001 l.t)
