-- `squares::count` meets its contract.
use Rattle.squares.proofs.Counting.{ones_count}
use Rattle.squares.proofs.count.Goals as goal

pub returns : goal.returns
returns c = ones_count 64 c.args.s c.ranges.s.fits
