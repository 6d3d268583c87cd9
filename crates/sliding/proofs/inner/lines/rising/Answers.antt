-- `sliding::inner::lines::rising` meets its contract.
use Rattle.std.proofs.Common.{◌∙◌, rules}
use Rattle.sliding.proofs.Diagonals.{rising_mask}
use Rattle.sliding.proofs.inner.lines.rising.Goals as goal

pub returns : goal.returns
returns c = c.ranked.ensures ∙ rising_mask c.args.sq (search rules)
