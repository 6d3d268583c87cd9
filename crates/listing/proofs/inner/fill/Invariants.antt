use Prim.Native.Nat.{◌-◌, ◌≤◌}
use lib.ListN.{drop}
use Rattle.retraction_gen.specs.Sequence.{sequence_of}
use Rattle.listing.specs.inner.Giving.{entries_of}
use Rattle.listing.proofs.Filling.{Filling}
use Rattle.listing.proofs.inner.fill.Given as goal

abbrev pub invariant-loop-i : goal.invariant-loop-i
invariant-loop-i l = (l.i ≤ l.len) × Filling (sequence_of l.masks (entries_of l.list)) l.initial.slots 0 l.slots l.n (sequence_of l.masks (drop l.i (entries_of l.list)))

abbrev pub decreases-loop-i : goal.decreases-loop-i
decreases-loop-i l = l.len - l.i
