-- A number stays within what no row has.
use Rattle.std.proofs.Common.{◌≤◌}
use Rattle.volume.proofs.show.parse.Given as goal

abbrev pub invariant-loop-b : goal.invariant-loop-b
invariant-loop-b l = l.n ≤ 65536
