-- `position::inner::is_pawn` meets its contract.
use Rattle.laws.specs.declared.Piece.TheVariants.{Pawn}
use Rattle.position.proofs.Editing.{kind_on}
use Rattle.position.proofs.inner.is_pawn.Goals as goal

pub returns : goal.returns
returns c = kind_on c.args.x c.requires Pawn
