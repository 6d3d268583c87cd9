-- `souls::inner::souls` meets its contract.
use mathlib.Core.Path.{◌∙◌}
use Rattle.souls.proofs.Counted.{souls_are}
use Rattle.souls.proofs.inner.souls.Goals as goal

pub returns : goal.returns
returns c = c.souls_of.ensures ∙ rw c.color_place-c.ensures.0 (souls_are c.args.pieces c.args.colors c.requires c.args.color)
