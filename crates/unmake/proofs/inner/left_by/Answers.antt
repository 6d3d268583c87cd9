-- `unmake::inner::left_by` meets its contract.
use Rattle.laws.specs.declared.Piece.TheVariants.{Pawn}
use Rattle.laws.specs.Men.{man}
use Rattle.position.proofs.Editing.{is_man}
use Rattle.unmake.proofs.inner.left_by.Goals as goal

pub returns-then-mark : goal.returns-then-mark
returns-then-mark c = (rw c.if-mark.true (is_man (man c.args.c Pawn) c.man_number.ensures.0), c.man_number.ensures.1)
