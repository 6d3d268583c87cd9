-- Each line has a byte at least.
use Rattle.std.proofs.Common.{◌≤◌, ◌-◌}
use Rattle.volume.proofs.make.put_bodies.Given as goal

abbrev pub invariant-loop-at : goal.invariant-loop-at
invariant-loop-at g l = (l.at ≤ l.f.size) × (l.count ≤ l.at) × (l.sink.len ≤ 65536)

abbrev pub decreases-loop-at : goal.decreases-loop-at
decreases-loop-at g l = l.f.size - l.at
