-- `un_en_passant::inner::two_others` meets its contract.
use Rattle.un_en_passant.specs.UnEnPassants.{two_others}
use Rattle.un_en_passant.proofs.inner.two_others.Goals as goal

pub returns : goal.returns
unfolding two_others
returns c = rw (c.choose.ensures, c.has-blocks.ensures, c.rays-all.ensures)
