-- `back::inner::is_passant_uncapture` meets its contract.
use Rattle.squares.specs.Tests.{◌and◌}
use Rattle.incremental.specs.Moved.{is_passant_uncapture}
use Rattle.back.proofs.Places.{pawn_place}
use Rattle.back.proofs.inner.is_passant_uncapture.Goals as goal

pub returns : goal.returns
unfolding is_passant_uncapture ◌and◌
returns c = rw (c.piece_place.ensures.0, pawn_place c.args.piece)
