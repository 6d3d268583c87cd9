use mathlib.Core.Path.{◌≡◌}
use Prim.Native.Nat.{◌+◌, ◌-◌, ◌≤◌}
use lib.ListN.{length, drop}
use Rattle.retraction_gen.specs.Sequence.{sequence_of}
use Rattle.listing.specs.inner.Giving.{entries_of}
use Rattle.listing.proofs.inner.count.Given as goal

abbrev pub invariant-loop-i : goal.invariant-loop-i
invariant-loop-i l = (l.i ≤ l.len) × (l.n + length (sequence_of l.masks (drop l.i (entries_of l.list))) ≡ length (sequence_of l.masks (entries_of l.list)))

abbrev pub decreases-loop-i : goal.decreases-loop-i
decreases-loop-i l = l.len - l.i
