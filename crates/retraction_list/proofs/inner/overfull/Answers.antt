-- `retraction_list::inner::overfull` meets its contract.
use Rattle.retraction_list.specs.Entries.{holding, full_list}
use Rattle.retraction_list.proofs.inner.overfull.Goals as goal

pub returns : goal.returns
unfolding holding full_list
returns c = rw c.empty-out.ensures
