-- `board::kind_on` meets its contract.
use mathlib.Core.Path.{◌∙◌, sym}
use Rattle.board.proofs.kind_on.Goals as goal

pub returns-then-has : goal.returns-then-has
returns-then-has c = rw (c.piece_at.ensures, c.to_laws.ensures, sym c.has.ensures ∙ c.if-has.true)

pub returns : goal.returns
returns c = rw (sym c.has.ensures ∙ c.if-has.false)
