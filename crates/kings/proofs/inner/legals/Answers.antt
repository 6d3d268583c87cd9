-- `kings::inner::legals` meets its contract.
use Rattle.retraction_list.specs.inner.Pushing.{pushed_all}
use Rattle.kings.specs.Kings.{king_of}
use Rattle.retraction_list.proofs.Pushing.{pushed_both}
use Rattle.kings.proofs.inner.legals.Goals as goal

pub returns-then-v : goal.returns-then-v
unfolding king_of pushed_all
returns-then-v c = rw c.if-v.true

pub returns : goal.returns
unfolding king_of
returns c = rw (c.uncastled.ensures, c.stepped-one.ensures, c.steps-targets.ensures, c.if-v.false) (pushed_both _ _ _)
