-- `retraction_list::inner::offer` meets its contract.
use borrow.Author.Tests.{eq-eqb, ne_eqb}
use Rattle.retraction_list.specs.Entries.{offered}
use Rattle.retraction_list.specs.inner.Pushing.{pushed_all}
use Rattle.retraction_list.proofs.inner.offer.Goals as goal

pub returns-then-targets-eq0 : goal.returns-then-targets-eq0
unfolding offered pushed_all
returns-then-targets-eq0 c = simp (eq-eqb _ _ c.if-targets-eq0.true)

pub returns : goal.returns
unfolding offered
returns c = simp (ne_eqb _ _ c.if-targets-eq0.false) c.put.ensures
