-- `retraction_list::inner::empty` meets its contract.
use Rattle.retraction_list.specs.Entries.{holding}
use Rattle.retraction_list.proofs.inner.empty.Goals as goal

pub returns : goal.returns
unfolding holding
returns c = rw c.no_entry-e.ensures
