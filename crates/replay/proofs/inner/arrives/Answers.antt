-- `replay::inner::arrives` meets its contract.
use mathlib.Core.Path.{◌∙◌}
use native.Mathlib.Omega.{arith}
use Rattle.position.specs.inner.Edits.{man_with}
use Rattle.position.proofs.Composing.{numbered_is}
use Rattle.position.proofs.Editing.{is_man}
use Rattle.replay.proofs.inner.arrives.Goals as goal

pub returns-then-mark : goal.returns-then-mark
returns-then-mark c = (rw c.if-mark.true (is_man (man_with c.args.c c.args.k) c.man_number.ensures.0 ∙ numbered_is c.args.c c.args.k (omega arith)), c.man_number.ensures.1)
