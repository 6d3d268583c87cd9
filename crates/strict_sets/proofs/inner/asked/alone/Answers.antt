-- `strict_sets::inner::asked::alone` meets its contract.
use mathlib.Core.Path.{◌∙◌}
use Rattle.laws.specs.Boards.{pos_at}
use Rattle.strict_sets.proofs.Asked.{alone_set}
use Rattle.strict_sets.proofs.inner.asked.alone.Goals as goal

pub is_strict-requires : goal.is_strict-requires
is_strict-requires c = c.requires

pub returns : goal.returns
returns c = c.choose.ensures ∙ alone_set (pos_at c.args.p) c.args.s c.args.q c.is_strict.ensures c.bit.ensures
