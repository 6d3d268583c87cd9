-- `retraction_list::inner::capture_kind` meets its contract.
use Rattle.retraction_list.specs.Entries.{capture_kind}
use Rattle.retraction_list.proofs.inner.capture_kind.Goals as goal

pub returns-then-pinned : goal.returns-then-pinned
unfolding capture_kind
returns-then-pinned c = rw c.if-pinned.true

pub returns-else-pinned : goal.returns-else-pinned
unfolding capture_kind
returns-else-pinned c = rw c.if-pinned.false
