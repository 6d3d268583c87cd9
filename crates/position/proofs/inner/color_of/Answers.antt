-- `position::inner::color_of` meets its contract.
use borrow.Author.Tests.{eq-eqb, ne_eqb}
use Rattle.position.proofs.inner.color_of.Goals as goal

pub returns-then-x-eq0 : goal.returns-then-x-eq0
returns-then-x-eq0 c = rw (eq-eqb _ _ c.if-x-eq0.true)

pub returns : goal.returns
returns c = rw (ne_eqb _ _ c.if-x-eq0.false)
