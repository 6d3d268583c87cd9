use Prim.Native.Nat.{◌-◌, ◌≤◌}
use lib.ListN.{length}
use Rattle.laws.specs.Boards.{pos_at}
use Rattle.solution.proofs.Judging.{Goes}
use Rattle.solution.proofs.inner.verdict.Given as goal

abbrev pub invariant-loop-at : goal.invariant-loop-at
invariant-loop-at l = (l.at ≤ length l.lines) × (l.n ≤ l.at) × Goes (pos_at l.p) l.lines l.seen l.at l.n

abbrev pub decreases-loop-at : goal.decreases-loop-at
decreases-loop-at l = length l.lines - l.at
