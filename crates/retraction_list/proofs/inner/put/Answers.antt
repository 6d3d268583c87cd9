-- `retraction_list::inner::put` meets its contract.
use Rattle.retraction_list.specs.inner.Pushing.{pushed_all}
use Rattle.retraction_list.proofs.inner.put.Goals as goal

pub returns : goal.returns
unfolding pushed_all
returns c = c.push.ensures
