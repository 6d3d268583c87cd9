-- `desks::inner::clear` meets its contract.
use Rattle.std.proofs.Common.{refl, add-one}
use Rattle.desks.specs.Calls.{cleared}
use Rattle.desks.proofs.inner.clear.Goals as goal

pub loop-i-init : goal.loop-i-init
unfolding cleared
loop-i-init c = refl

pub loop-i-preserved : goal.loop-i-preserved
unfolding cleared
loop-i-preserved c = rw (add-one, c.loop-i.invariant)
