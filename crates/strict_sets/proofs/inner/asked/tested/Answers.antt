-- `strict_sets::inner::asked::tested` meets its contract.
use Rattle.squares.proofs.Unions.{unite_starts, unite_on, unite_done}
use Rattle.strict_sets.proofs.inner.asked.tested.Goals as goal

pub loop-q-init : goal.loop-q-init
loop-q-init c = unite_starts (cc)

pub loop-q-preserved : goal.loop-q-preserved
loop-q-preserved c = unite_on c.loop-q.invariant c.in-Some.ensures.steps c.alone-r.ensures

pub returns : goal.returns
returns c = unite_done c.loop-q.invariant c.in-None.ensures.steps.0
