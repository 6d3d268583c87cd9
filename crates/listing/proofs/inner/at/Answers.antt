-- `listing::inner::at` meets its contract.
use mathlib.Core.Path.{ap}
use mir.Val.{bool_byte}
use Rattle.laws.proofs.Packing.{byte_lt}
use Rattle.listing.proofs.inner.at.Goals as goal

pub returns : goal.returns
returns c = (ap bool_byte c.has.ensures, byte_lt c.has.result)
