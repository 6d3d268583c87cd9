-- A list has no more slots than there is room for.
use Rattle.std.proofs.Common.{arith}
use Rattle.slots.proofs.Telling.{listing_tells}
use Rattle.step.proofs.open.Goals as goal

pub returns : goal.returns
returns c =
    let w = listing_tells c.strict_into.ensures.moves _ c.strict_into.ensures.into _ c.in_ok-strict.was in
    omega (arith, w.size, w.fits)
