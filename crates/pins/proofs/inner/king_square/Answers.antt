-- `pins::inner::king_square` meets its contract.
use Rattle.laws.specs.Boards.{men_at}
use Rattle.pins.proofs.OneKing.{the_king}
use Rattle.pins.proofs.inner.king_square.Goals as goal

pub returns : goal.returns
returns c = the_king (men_at c.args.pieces c.args.colors) c.args.color c.lowest.result c.requires.1 (rw c.men_of.ensures at c.lowest.ensures)
