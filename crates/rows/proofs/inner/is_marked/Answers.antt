-- `rows::inner::is_marked` meets its contract.
use Rattle.rows.specs.inner.Marked.{marked}
use Rattle.rows.proofs.inner.is_marked.Goals as goal

pub returns : goal.returns
unfolding marked
returns c = c.has.ensures
