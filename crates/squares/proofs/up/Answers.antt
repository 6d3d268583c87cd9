-- `squares::up` meets its contract.
use Rattle.squares.proofs.Shifts.{up_is}
use Rattle.squares.proofs.up.Goals as goal

pub returns : goal.returns
returns c = up_is c.args.s c.ranges.s.fits
