-- `solution::inner::marks::is_marked` meets its contract.
use Rattle.rows.specs.inner.Marked.{marked}
use Rattle.solution.proofs.inner.marks.is_marked.Goals as goal

pub returns : goal.returns
unfolding marked
returns c = c.has.ensures
