-- `pawns::inner::crossing` meets its contract.
use Rattle.pawns.specs.Pawns.{crossed_of}
use Rattle.pawns.proofs.inner.crossing.Goals as goal

pub returns-then-doubled : goal.returns-then-doubled
unfolding crossed_of
returns-then-doubled c = rw (c.bit-one.ensures, c.bit-two.ensures, c.ubackward-further.ensures.0, ← c.doubled.ensures, c.if-doubled.true)

pub returns : goal.returns
unfolding crossed_of
returns c = rw (c.bit-one.ensures, ← c.doubled.ensures, c.if-doubled.false)
