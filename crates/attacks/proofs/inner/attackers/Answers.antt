-- `attacks::inner::attackers` meets its contract.
use mathlib.Core.Path.{◌∙◌}
use Rattle.attacks.proofs.Meets.{met_is}
use Rattle.attacks.proofs.inner.attackers.Goals as goal

pub returns : goal.returns
returns c = c.met.ensures ∙ rw (c.get_king_moves-king.ensures, c.get_knight_moves-knight.ensures, c.get_pawn_attacks-pawn.ensures, c.other.ensures, c.get_rook_moves-straight.ensures, c.get_bishop_moves-diagonal.ensures, c.occupied-occ.ensures, c.color_place-c.ensures.0) (met_is c.args.pieces c.args.colors c.requires.0 c.args.color c.args.sq c.requires.1)
