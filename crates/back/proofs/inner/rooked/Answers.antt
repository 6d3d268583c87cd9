-- `back::inner::rooked` meets its contract.
use Rattle.incremental.specs.Moved.{rooked_of}
use Rattle.back.proofs.inner.rooked.Goals as goal

pub returns : goal.returns
unfolding rooked_of
returns c = rw (c.with_rights.ensures, c.xor-b.ensures, c.bit.ensures, c.bit-2.ensures, c.home_square-castled.ensures.0, c.home_square-corner.ensures.0)
