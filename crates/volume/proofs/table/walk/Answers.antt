-- Rows that are sound have numbers that rise, as the search among them needs.
use Rattle.std.proofs.Common.{arith}
use Rattle.volume.proofs.Rising.{walked_rising}
use Rattle.volume.proofs.table.walk.Goals as goal

pub find-requires : goal.find-requires
find-requires c = (omega arith, omega arith, walked_rising _ _ _ _ _ _ _ _ c.in-Ok.ensures)
