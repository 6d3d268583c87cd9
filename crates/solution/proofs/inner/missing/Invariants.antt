use Prim.Native.Nat.{◌-◌}
use Rattle.laws.specs.Boards.{pos_at}
use Rattle.strict_search.specs.inner.Searching.{test_of}
use Rattle.rows.specs.inner.Marked.{marked}
use Rattle.solution.specs.inner.Marked.{AllMarked}
use Rattle.solution.proofs.inner.missing.Given as goal

abbrev pub invariant-loop-i : goal.invariant-loop-i
invariant-loop-i l = AllMarked (test_of (pos_at l.p)) (marked l.seen) l.i

abbrev pub decreases-loop-i : goal.decreases-loop-i
decreases-loop-i l = 49152 - l.i
