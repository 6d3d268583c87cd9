use Prim.Native.Nat.{◌-◌}
use Rattle.laws.specs.Boards.{pos_at}
use Rattle.strict_search.specs.inner.Searching.{test_of, Skips}
use Rattle.strict_search.proofs.inner.next_from.Given as goal

abbrev pub invariant-loop-i : goal.invariant-loop-i
invariant-loop-i l = Skips (test_of (pos_at l.p)) l.start l.i

abbrev pub decreases-loop-i : goal.decreases-loop-i
decreases-loop-i l = 49152 - l.i
