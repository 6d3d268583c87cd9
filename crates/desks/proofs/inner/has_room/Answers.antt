-- `desks::inner::has_room` meets its contract.
use Rattle.desks.proofs.Room.{room_short, room_first, room_second}
use Rattle.desks.proofs.inner.has_room.Goals as goal

pub returns-then-n-lt-HEAD : goal.returns-then-n-lt-HEAD
returns-then-n-lt-HEAD c = room_short _ _ _ c.if-n-lt-HEAD.true

pub returns-then-places-first : goal.returns-then-places-first
returns-then-places-first c = room_first _ _ _ c.if-n-lt-HEAD.false c.if-places-first.true

pub returns : goal.returns
returns c = room_second _ _ _ c.if-n-lt-HEAD.false c.if-places-first.false
