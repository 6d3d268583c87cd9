-- `unmake::inner::promoted_to` meets its contract.
use Rattle.unmake.proofs.Answering.{promoted_number}
use Rattle.unmake.proofs.inner.promoted_to.Goals as goal

pub returns-then-mark : goal.returns-then-mark
returns-then-mark c = rw c.if-mark.true (promoted_number c.args.y c.requires)
