-- `diagram::inner::mark` meets its contract.
use borrow.Author.Tests.{eq-eqb, ne_eqb}
use Rattle.diagram.proofs.inner.mark.Goals as goal

pub returns-then-k-d : goal.returns-then-k-d
returns-then-k-d c = rw (eq-eqb _ _ c.if-k-d.true)

pub returns-then-k-d-2 : goal.returns-then-k-d-2
returns-then-k-d-2 c = rw (ne_eqb _ _ c.if-k-d.false, eq-eqb _ _ c.if-k-d-2.true)

pub returns : goal.returns
returns c = rw (ne_eqb _ _ c.if-k-d.false, ne_eqb _ _ c.if-k-d-2.false)
