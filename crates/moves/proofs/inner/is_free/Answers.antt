-- `moves::inner::is_free` meets its contract.
use mathlib.Core.Path.{◌∙◌}
use Rattle.laws.specs.Boards.{men_in}
use Rattle.moves.proofs.Steps.{clear_is}
use Rattle.moves.proofs.inner.is_free.Goals as goal

pub returns : goal.returns
returns c = c.is_clear.ensures ∙ rw c.occupied-occ.ensures (clear_is (men_in c.args.p) c.args.from c.args.to)
