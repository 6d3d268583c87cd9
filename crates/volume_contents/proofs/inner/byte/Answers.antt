use mathlib.Core.Path.{sym}
use Rattle.volume_contents.proofs.Past.{past}
use Rattle.volume_contents.proofs.inner.byte.Goals as goal

-- src/inner.rt:72:1
pub returns-else-i-v : goal.returns-else-i-v
returns-else-i-v c = sym (past c.args.v.now c.args.i c.if-i-v.false)
