-- The sink has room for what waits.
use Rattle.std.proofs.Common.{◌≤◌}
use Rattle.volume.proofs.lines.put_all.Given as goal

abbrev pub invariant-loop-i : goal.invariant-loop-i
invariant-loop-i g l = l.sink.len ≤ 65536
