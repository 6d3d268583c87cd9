-- Nothing is unread, by the cursor's two tests.
use Rattle.std.proofs.Common.{arith}
use Rattle.input.proofs.Searched.{unread_nowhere}
use Rattle.input.proofs.unread.Goals as goal

pub returns : goal.returns
returns c = (unread_nowhere c.args.c c.start.result c.start.ensures c.else-c.either, omega arith, omega arith)
