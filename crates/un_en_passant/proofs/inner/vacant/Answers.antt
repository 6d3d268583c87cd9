-- `un_en_passant::inner::vacant` meets its contract.
use Rattle.un_en_passant.specs.UnEnPassants.{vacant_of}
use Rattle.un_en_passant.proofs.inner.vacant.Goals as goal

pub returns : goal.returns
unfolding vacant_of
returns c = rw (c.get_pawn_attacks-check_mask.ensures, c.other-other.ensures)
