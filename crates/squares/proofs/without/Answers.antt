-- `squares::without` meets its contract.
use Rattle.squares.proofs.LeastMember.{without_is}
use Rattle.squares.proofs.without.Goals as goal

pub returns : goal.returns
returns c = rw c.bit.ensures (without_is c.args.s c.args.k c.ranges.s.fits)
