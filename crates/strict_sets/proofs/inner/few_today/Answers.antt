-- `strict_sets::inner::few_today` meets its contract.
use Rattle.strict_sets.proofs.inner.few_today.Goals as goal

pub souls-requires : goal.souls-requires
souls-requires c = c.requires.sound

pub returns : goal.returns
returns c = rw c.souls.ensures
