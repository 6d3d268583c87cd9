use Prim.Native.Nat.{◌-◌}
use lib.ListN.{length}
use Rattle.volume_lines.proofs.Surveying.{Sofar}
use Rattle.volume_lines.proofs.inner.survey.Given as goal

abbrev pub invariant-loop-at : goal.invariant-loop-at
invariant-loop-at l = Sofar l.t l.count l.initial.named l.at l.n l.named

abbrev pub decreases-loop-at : goal.decreases-loop-at
decreases-loop-at l = length l.t - l.at
