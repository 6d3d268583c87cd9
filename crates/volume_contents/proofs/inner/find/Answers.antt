use mathlib.Core.Path.{subst}
use Prim.Native.Nat.{◌≤◌, ◌<◌}
use native.Mathlib.Omega.{arith}
use Rattle.volume_contents.specs.declared.Entry.{Entry}
use Rattle.volume_contents.proofs.Walking.{find_low, find_high}
use Rattle.volume_contents.proofs.inner.find.Goals as goal

pub loop-low-preserved-then-e-number : goal.loop-low-preserved-then-e-number
loop-low-preserved-then-e-number c = find_low _ _ _ _ c.requires.2 _ _ _ c.loop-low.invariant (omega arith) (omega arith) (subst (λ (e : Entry). e.number < c.args.number) c.entry-e.ensures.0 c.if-e-number.true)

pub loop-low-preserved : goal.loop-low-preserved
loop-low-preserved c = find_high _ _ _ _ c.requires.2 _ _ _ c.loop-low.invariant (omega arith) (omega arith) (subst (λ (e : Entry). c.args.number ≤ e.number) c.entry-e.ensures.0 c.if-e-number.false)
