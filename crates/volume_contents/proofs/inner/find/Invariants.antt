use Prim.Native.Nat.{◌-◌}
use Rattle.volume_contents.proofs.Walking.{Between}
use Rattle.volume_contents.proofs.inner.find.Given as goal

abbrev pub invariant-loop-low : goal.invariant-loop-low
invariant-loop-low l = Between l.s l.at l.rows l.number l.low l.high

abbrev pub decreases-loop-low : goal.decreases-loop-low
decreases-loop-low l = l.high - l.low
