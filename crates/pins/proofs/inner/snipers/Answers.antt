-- `pins::inner::snipers` meets its contract.
use mathlib.Core.Path.{◌∙◌}
use Rattle.pins.proofs.OneKing.{snipers_is}
use Rattle.pins.proofs.inner.snipers.Goals as goal

pub returns : goal.returns
returns c = c.met.ensures ∙ rw (c.get_rook_moves-straight.ensures, c.get_bishop_moves-diagonal.ensures, c.color_place-c.ensures.0) (snipers_is c.args.pieces c.args.colors c.args.color c.args.q c.requires.0 c.requires.1)
