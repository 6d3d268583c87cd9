-- `strict_sets::inner::calm::may_rise` meets its contract.
use Rattle.squares.specs.Tests.{◌and◌}
use Rattle.strict_sets.proofs.Coming.{promoted_by}
use Rattle.strict_sets.proofs.inner.calm.may_rise.Goals as goal

pub rank_for-requires : goal.rank_for-requires
rank_for-requires c = c.requires.1

pub returns : goal.returns
unfolding ◌and◌
returns c = rw (c.rank_for.ensures, promoted_by c.args.y c.requires.0)
