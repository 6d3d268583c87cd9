-- `desks::inner::has_fit` meets its contract.
use Rattle.desks.specs.Layout.{fits}
use Rattle.desks.proofs.Room.{room_short}
use Rattle.desks.proofs.inner.has_fit.Goals as goal

pub returns-then-n-lt-HEAD : goal.returns-then-n-lt-HEAD
unfolding fits
returns-then-n-lt-HEAD c = room_short _ _ _ c.if-n-lt-HEAD.true

pub returns : goal.returns
unfolding fits
returns c = c.has_room.ensures
