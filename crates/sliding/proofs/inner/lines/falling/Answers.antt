-- `sliding::inner::lines::falling` meets its contract.
use Rattle.std.proofs.Common.{◌∙◌, rules}
use Rattle.sliding.proofs.Diagonals.{falling_mask}
use Rattle.sliding.proofs.inner.lines.falling.Goals as goal

pub returns : goal.returns
returns c = c.ranked.ensures ∙ falling_mask c.args.sq (search rules)
