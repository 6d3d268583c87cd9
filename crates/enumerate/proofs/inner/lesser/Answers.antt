-- `enumerate::inner::lesser` meets its contract.
use Rattle.enumerate.specs.Lists.{lesser_of}
use Rattle.retraction_list.proofs.Pushing.{pushed_both}
use Rattle.enumerate.proofs.inner.lesser.Goals as goal

pub returns : goal.returns
unfolding lesser_of
returns c = rw (c.legals-2.ensures, c.legals-c.ensures, c.legals-b.ensures, c.legals.ensures, c.empty-none.ensures) (simp pushed_both)
