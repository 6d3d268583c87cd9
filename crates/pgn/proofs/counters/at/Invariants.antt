-- A counter stays within what stands for none.
use Rattle.std.proofs.Common.{◌≤◌}
use Rattle.pgn.proofs.counters.at.Given as goal

abbrev pub invariant-loop-i : goal.invariant-loop-i
invariant-loop-i l = l.x ≤ 65536
