-- Each line has a byte at least.
use Rattle.std.proofs.Common.{◌≤◌, ◌-◌, length}
use Rattle.volume.proofs.make.put_some.Given as goal

abbrev pub invariant-loop-at : goal.invariant-loop-at
invariant-loop-at g l = (l.at ≤ length l.t) × (l.count ≤ l.at) × (l.sink.len ≤ 65536)

abbrev pub decreases-loop-at : goal.decreases-loop-at
decreases-loop-at g l = length l.t - l.at
