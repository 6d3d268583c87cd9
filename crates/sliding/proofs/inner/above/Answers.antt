-- `sliding::inner::above` meets its contract.
use Rattle.std.proofs.Common.{rules}
use Rattle.sliding.proofs.Borrowing.{above_is}
use Rattle.sliding.proofs.inner.above.Goals as goal

pub returns : goal.returns
returns c =
    above_is c.args.sq c.args.s c.wrapping_sub_u64.result c.requires (search rules) (search rules)
    (rw c.bit.ensures at c.wrapping_sub_u64.ensures.value)
