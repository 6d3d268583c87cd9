-- `sliding::inner::mirrors::swap` meets its contract.
use Rattle.std.proofs.Common.{rules}
use Rattle.sliding.proofs.Mirrors.{swap_is}
use Rattle.sliding.proofs.inner.mirrors.swap.Goals as goal

pub returns : goal.returns
returns c = swap_is c.args.s c.args.m c.args.n (search rules) c.requires
