-- `enumerate::inner::kinds` meets its contract.
use borrow.Author.Tests.{eq-eqb, ne_eqb}
use Rattle.enumerate.specs.Lists.{kinds_of}
use Rattle.retraction_list.proofs.Pushing.{pushed_both}
use Rattle.enumerate.proofs.inner.kinds.Goals as goal

pub returns-then-n-eq2 : goal.returns-then-n-eq2
unfolding kinds_of
returns-then-n-eq2 c = rw (eq-eqb _ _ c.if-n-eq2.true) c.lesser-d.ensures

pub returns : goal.returns
unfolding kinds_of
returns c = rw (c.legals.ensures, c.legals-e.ensures, c.lesser-d.ensures, ne_eqb _ _ c.if-n-eq2.false) (simp pushed_both)
