-- `un_en_passant::inner::one_of_two` meets its contract.
use Rattle.un_en_passant.specs.UnEnPassants.{one_of_two}
use Rattle.un_en_passant.proofs.inner.one_of_two.Goals as goal

pub returns : goal.returns
unfolding one_of_two
returns c = rw (c.choose.ensures, c.has-blocks.ensures, c.between-ray.ensures)
