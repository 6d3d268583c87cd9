-- `squares::down` meets its contract.
use Rattle.squares.proofs.Shifts.{down_is}
use Rattle.squares.proofs.down.Goals as goal

pub returns : goal.returns
returns c = down_is c.args.s c.ranges.s.fits
