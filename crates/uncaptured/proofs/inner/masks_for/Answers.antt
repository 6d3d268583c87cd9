-- `uncaptured::inner::masks_for` meets its contract.
use borrow.Author.Tests.{lt-ltb, le-ltb}
use Rattle.uncaptured.specs.Masks.{masks_for}
use Rattle.uncaptured.proofs.inner.masks_for.Goals as goal

pub returns-then-n-gt8 : goal.returns-then-n-gt8
unfolding masks_for
returns-then-n-gt8 c = rw (← c.souls_of-n.ensures, lt-ltb _ _ c.if-n-gt8.true)

pub returns : goal.returns
unfolding masks_for
returns c = rw (c.masks_at.ensures, ← c.souls_of-n.ensures, le-ltb _ _ c.if-n-gt8.false)
