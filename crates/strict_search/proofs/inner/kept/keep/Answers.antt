-- `strict_search::inner::kept::keep` meets its contract.
use Rattle.strict_search.proofs.Keeping.{keeps}
use Rattle.strict_search.proofs.inner.kept.keep.Goals as goal

pub returns : goal.returns
returns c = keeps c.args.kept.now c.args.s c.args.w c.requires.0 c.requires.1
