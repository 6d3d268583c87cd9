-- `pawns::inner::doubled` meets its contract.
use Rattle.squares.specs.Tests.{◌and◌}
use Rattle.pawns.specs.Pawns.{doubled_of}
use Rattle.pawns.proofs.inner.doubled.Goals as goal

pub returns : goal.returns
unfolding doubled_of ◌and◌
returns c = rw (c.has-blocked.ensures, c.allows-may.ensures, c.get_rank-near.ensures, c.adjacent_files-files.ensures, c.own_rank-fourth.ensures)
