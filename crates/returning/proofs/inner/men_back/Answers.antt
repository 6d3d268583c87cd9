-- `returning::inner::men_back` meets its contract.
use mathlib.Core.Path.{◌∙◌}
use Rattle.returning.proofs.Allowed.{all_back, none_back}
use Rattle.returning.proofs.inner.men_back.Goals as goal

pub returns-then-n-le7 : goal.returns-then-n-le7
returns-then-n-le7 c = c.choose.ensures ∙ all_back _ _ c.args.s c.requires.1 c.requires.2 (rw c.souls-n.ensures at c.if-n-le7.true)

pub returns-then-n-gt8 : goal.returns-then-n-gt8
returns-then-n-gt8 c = none_back _ _ c.args.s c.requires.1 c.requires.2 (rw c.souls-n.ensures at c.if-n-gt8.true)
