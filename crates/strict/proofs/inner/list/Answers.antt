-- `strict::inner::list` meets its contract.
use Rattle.strict.proofs.Told.{listed_told}
use Rattle.strict.proofs.inner.list.Goals as goal

pub returns : goal.returns
returns c = listed_told _ _ c.requires.1 (rw c.today-p.ensures.0 at c.list.ensures)
