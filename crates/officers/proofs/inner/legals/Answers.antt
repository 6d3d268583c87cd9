-- `officers::inner::legals` meets its contract.
use borrow.Author.Tests.{eq-eqb, ne_eqb}
use Rattle.officers.specs.Officers.{officer_of}
use Rattle.retraction_list.proofs.Pushing.{pushed_both}
use Rattle.officers.proofs.inner.legals.Goals as goal

pub returns-then-n-eq0 : goal.returns-then-n-eq0
unfolding officer_of
returns-then-n-eq0 c = rw (eq-eqb _ _ c.if-n-eq0.true) c.calm.ensures

pub returns-then-n-eq1 : goal.returns-then-n-eq1
unfolding officer_of
returns-then-n-eq1 c = rw (c.onto.ensures, c.alone-one.ensures, ne_eqb _ _ c.if-n-eq0.false, eq-eqb _ _ c.if-n-eq1.true) (pushed_both _ _ _)

pub returns : goal.returns
unfolding officer_of
returns c = rw (ne_eqb _ _ c.if-n-eq0.false, ne_eqb _ _ c.if-n-eq1.false) c.both.ensures
