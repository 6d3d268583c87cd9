-- `pins::inner::shields` meets its contract.
use Rattle.squares.proofs.Turns.{taken_lt}
use Rattle.squares.proofs.Unions.{unite_starts, unite_on, unite_done}
use Rattle.pins.proofs.inner.shields.Goals as goal

pub loop-a-init : goal.loop-a-init
loop-a-init c = unite_starts (cc)

pub lone-r-requires : goal.lone-r-requires
lone-r-requires c = (c.requires.0, c.requires.1, taken_lt _ c.in-Some.ensures.steps, c.requires.2)

pub loop-a-preserved : goal.loop-a-preserved
loop-a-preserved c = unite_on c.loop-a.invariant c.in-Some.ensures.steps c.lone-r.ensures

pub returns : goal.returns
returns c = unite_done c.loop-a.invariant c.in-None.ensures.steps.0
