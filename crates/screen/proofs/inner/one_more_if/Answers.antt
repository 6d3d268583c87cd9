-- `screen::inner::one_more_if` meets its contract.
use mathlib.Core.Path.{◌∙◌}
use Rattle.screen.proofs.inner.one_more_if.Goals as goal

pub returns-then-so : goal.returns-then-so
returns-then-so c = c.one_more.ensures ∙ rw c.if-so.true
