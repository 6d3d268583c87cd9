-- `back::inner::xor` meets its contract.
use Rattle.incremental.specs.Moved.{xor_of}
use Rattle.back.proofs.inner.xor.Goals as goal

pub returns : goal.returns
unfolding xor_of
returns c = rw (c.piece_place-k.ensures.0, c.color_place-c.ensures.0)
