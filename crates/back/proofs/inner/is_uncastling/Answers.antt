-- `back::inner::is_uncastling` meets its contract.
use Rattle.squares.specs.Tests.{◌and◌}
use Rattle.incremental.specs.Moved.{is_uncastling}
use Rattle.back.proofs.Places.{king_place}
use Rattle.back.proofs.inner.is_uncastling.Goals as goal

pub returns : goal.returns
unfolding is_uncastling ◌and◌
returns c = rw (c.piece_place.ensures.0, c.retraction_bb-bb.ensures, king_place c.args.piece)
