-- `un_en_passant::inner::un_en_passants` meets its contract.
use Rattle.un_en_passant.specs.UnEnPassants.{un_en_passants_of}
use Rattle.un_en_passant.proofs.inner.un_en_passants.Goals as goal

pub returns : goal.returns
unfolding un_en_passants_of
returns c = rw (c.each.ensures, c.get_rank-ep_rank.ensures, c.own_rank.ensures)
