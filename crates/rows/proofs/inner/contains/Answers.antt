-- `rows::inner::contains` meets its contract.
use mathlib.Core.Path.{◌∙◌}
use Rattle.rows.proofs.Rows.{in_any}
use Rattle.rows.proofs.inner.contains.Goals as goal

pub returns : goal.returns
returns c = c.contains.ensures.value ∙ in_any c.args.slot c.args.slots.now
