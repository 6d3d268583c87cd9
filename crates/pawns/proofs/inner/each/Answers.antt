-- `pawns::inner::each` meets its contract.
use Rattle.pawns.specs.Pawns.{from_of}
use Rattle.squares.proofs.Turns.{taken_lt, going_starts, going_on}
use Rattle.retraction_list.proofs.Pushing.{pushing_done}
use Rattle.pawns.proofs.inner.each.Goals as goal

pub loop-src-init : goal.loop-src-init
loop-src-init c = going_starts (cc)

pub from-out-requires : goal.from-out-requires
from-out-requires c = (c.requires, taken_lt _ c.in-Some.ensures.steps)

pub loop-src-preserved : goal.loop-src-preserved
loop-src-preserved c = going_on c.loop-src.invariant c.in-Some.ensures.steps c.from-out.ensures

pub returns : goal.returns
returns c = pushing_done (from_of c.args.v c.args.n) c.loop-src.invariant c.in-None.ensures.steps.0
