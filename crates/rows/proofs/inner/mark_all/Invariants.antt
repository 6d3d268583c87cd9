use mathlib.Core.Path.{◌≡◌}
use lib.ListN.{length}
use Rattle.rows.proofs.Marking.{Marking}
use Rattle.rows.proofs.inner.mark_all.Given as goal

abbrev pub invariant-loop-slot : goal.invariant-loop-slot
invariant-loop-slot l = Marking l.slots l.set l.slot-index × (length l.set ≡ 1024)
