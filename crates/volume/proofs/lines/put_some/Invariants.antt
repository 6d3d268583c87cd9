-- The sink has room for what waits.
use Rattle.std.proofs.Common.{◌≤◌}
use Rattle.volume.proofs.lines.put_some.Given as goal

abbrev pub invariant-loop-j : goal.invariant-loop-j
invariant-loop-j g l = l.sink.len ≤ 65536
