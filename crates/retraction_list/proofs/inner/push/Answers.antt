-- `retraction_list::inner::push` meets its contract.
use borrow.Author.Tests.{le-leb, lt-leb}
use Rattle.retraction_list.specs.inner.Pushing.{pushed}
use Rattle.retraction_list.proofs.inner.push.Goals as goal

pub returns-then-at-ge47 : goal.returns-then-at-ge47
unfolding pushed
returns-then-at-ge47 c = simp (le-leb 47 _ c.if-at-ge47.true)

pub returns : goal.returns
unfolding pushed
returns c = simp (lt-leb 47 _ c.if-at-ge47.false)
