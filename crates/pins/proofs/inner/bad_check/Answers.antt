-- `pins::inner::bad_check` meets its contract.
use mathlib.Core.Path.{◌∙◌}
use Rattle.laws.specs.Boards.{men_at}
use Rattle.pins.proofs.OneKing.{quiet_is}
use Rattle.pins.proofs.inner.bad_check.Goals as goal

pub is_attacked-requires : goal.is_attacked-requires
is_attacked-requires c = (c.requires.0, c.king_square-q.ensures.here)

pub returns : goal.returns
returns c = c.is_attacked.ensures ∙ quiet_is (men_at c.args.pieces c.args.colors) c.args.color c.king_square-q.result (rw c.other.ensures at c.king_square-q.ensures)
