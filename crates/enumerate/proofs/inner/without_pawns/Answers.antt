-- `enumerate::inner::without_pawns` meets its contract.
use Rattle.enumerate.specs.Lists.{all_but_pawns}
use Rattle.retraction_list.proofs.Pushing.{pushed_both}
use Rattle.enumerate.proofs.inner.without_pawns.Goals as goal

pub returns : goal.returns
unfolding all_but_pawns
returns c = rw (c.legals.ensures, c.legals-d.ensures, c.legals-c.ensures, c.legals-b.ensures, c.legals-a.ensures, c.empty-none.ensures) (simp pushed_both)
