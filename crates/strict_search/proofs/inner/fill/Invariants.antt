use mathlib.Core.Path.{◌≡◌}
use Prim.Native.Nat.{◌+◌, ◌-◌, ◌≤◌}
use lib.ListN.{length}
use Rattle.slots.specs.Slots.{fill_from}
use Rattle.strict_search.specs.inner.Keeping.{kept_test, kept_moves}
use Rattle.strict_search.proofs.Remaining.{rest}
use Rattle.strict_search.proofs.inner.fill.Given as goal

abbrev pub invariant-loop-i : goal.invariant-loop-i
invariant-loop-i l = (l.i ≤ 49152) × ((l.n + length (rest (kept_test l.kept) l.i) ≤ length l.slots) × ((length l.slots ≡ length l.initial.slots) × (fill_from l.slots l.n (rest (kept_test l.kept) l.i) ≡ fill_from l.initial.slots 0 (kept_moves l.kept))))

abbrev pub decreases-loop-i : goal.decreases-loop-i
decreases-loop-i l = 49152 - l.i
