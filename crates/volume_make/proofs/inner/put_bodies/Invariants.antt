use Prim.Native.Nat.{◌-◌}
use lib.ListN.{length}
use Rattle.volume_make.proofs.Bodies.{Going}
use Rattle.volume_make.proofs.inner.put_bodies.Given as goal

abbrev pub invariant-loop-at : goal.invariant-loop-at
invariant-loop-at l = Going l.t l.initial.out l.start l.at l.to l.out

abbrev pub decreases-loop-at : goal.decreases-loop-at
decreases-loop-at l = length l.t - l.at
