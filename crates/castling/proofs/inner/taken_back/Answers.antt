-- `castling::inner::taken_back` meets its contract.
use Rattle.castling.proofs.inner.taken_back.Goals as goal

pub returns : goal.returns
returns c = rw (c.king_to-source.ensures.0, c.king_home-target.ensures.0)
