-- `pins::inner::pins` meets its contract.
use mathlib.Core.Path.{◌∙◌}
use Rattle.laws.specs.Boards.{men_at}
use Rattle.pins.proofs.OneKing.{pins_is}
use Rattle.pins.proofs.inner.pins.Goals as goal

pub snipers-from-requires : goal.snipers-from-requires
snipers-from-requires c = (c.requires.1, c.king_square-q.ensures.here)

pub shields-requires : goal.shields-requires
shields-requires c = (c.requires.0, c.requires.1, c.king_square-q.ensures.here)

pub returns : goal.returns
returns c = c.shields.ensures ∙ rw (c.snipers-from.ensures, c.other-d.ensures) (pins_is (men_at c.args.pieces c.args.colors) c.args.color c.king_square-q.result c.king_square-q.ensures)
