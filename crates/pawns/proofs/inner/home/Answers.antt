-- `pawns::inner::home` meets its contract.
use Rattle.pawns.specs.Pawns.{home_of}
use Rattle.pawns.proofs.inner.home.Goals as goal

pub returns : goal.returns
unfolding home_of
returns c = rw (c.vacant-free.ensures, c.get_rank-first_rank.ensures, c.own_rank.ensures)
