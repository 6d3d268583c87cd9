-- `view::inner::castling_rooks` meets its contract.
use Rattle.view.specs.Views.{castling_rooks}
use Rattle.view.proofs.inner.castling_rooks.Goals as goal

pub returns : goal.returns
unfolding castling_rooks
returns c = rw (c.choose-2.ensures, c.choose.ensures, c.bit-a.ensures, c.bit-h.ensures, c.rook_home-2.ensures.0, c.rook_home.ensures.0)
