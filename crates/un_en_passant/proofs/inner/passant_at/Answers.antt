-- `un_en_passant::inner::passant_at` meets its contract.
use Rattle.un_en_passant.specs.UnEnPassants.{passant_at}
use Rattle.un_en_passant.proofs.inner.passant_at.Goals as goal

pub returns : goal.returns
unfolding passant_at
returns c = rw (c.offer.ensures, c.under-targets.ensures, c.beside_reborn-near.ensures)
