use Prim.Native.Nat.{◌-◌, ◌≤◌}
use Rattle.strict_search.specs.inner.Searching.{holds_in, Skips}
use Rattle.strict_search.proofs.inner.places.first_in.Given as goal

abbrev pub invariant-loop-j : goal.invariant-loop-j
invariant-loop-j l = Skips (holds_in l.w) l.i l.j × (l.j ≤ l.end)

abbrev pub decreases-loop-j : goal.decreases-loop-j
decreases-loop-j l = l.end - l.j
