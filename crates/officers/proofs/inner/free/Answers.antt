-- `officers::inner::free` meets its contract.
use borrow.Author.Tests.{eq-eqb, ne_eqb}
use Rattle.officers.specs.Officers.{free_of}
use Rattle.officers.proofs.inner.free.Goals as goal

pub returns-then-kind-eq1 : goal.returns-then-kind-eq1
unfolding free_of
returns-then-kind-eq1 c = rw (eq-eqb _ _ c.if-kind-eq1.true)

pub returns : goal.returns
unfolding free_of
returns c = rw (ne_eqb _ _ c.if-kind-eq1.false)
