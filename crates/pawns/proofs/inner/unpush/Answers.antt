-- `pawns::inner::unpush` meets its contract.
use Rattle.pawns.specs.Pawns.{unpush_of}
use Rattle.pawns.proofs.inner.unpush.Goals as goal

pub returns-then-has : goal.returns-then-has
unfolding unpush_of
returns-then-has c = rw (c.line-l.ensures, c.home-free.ensures, c.crossing-to.ensures, c.ubackward-crossed.ensures.0, ← c.has.ensures, c.if-has.true)

pub returns : goal.returns
unfolding unpush_of
returns c = rw (c.home-free.ensures, c.crossing-to.ensures, c.ubackward-crossed.ensures.0, ← c.has.ensures, c.if-has.false)
