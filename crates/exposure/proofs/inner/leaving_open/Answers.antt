-- `exposure::inner::leaving_open` meets its contract.
use Rattle.squares.proofs.Turns.{taken_lt}
use Rattle.squares.proofs.Unions.{unite_starts, unite_on, unite_done}
use Rattle.exposure.proofs.Seen.{off_between}
use Rattle.exposure.proofs.inner.leaving_open.Goals as goal

pub loop-a-init : goal.loop-a-init
loop-a-init c = unite_starts (cc)

pub between-requires : goal.between-requires
between-requires c = (c.requires.0, taken_lt _ c.in-Some.ensures.steps, c.requires.1)

pub loop-a-preserved : goal.loop-a-preserved
loop-a-preserved c = unite_on c.loop-a.invariant c.in-Some.ensures.steps (rw c.between.ensures (off_between c.in-Some.a c.args.k))

pub returns : goal.returns
returns c = unite_done c.loop-a.invariant c.in-None.ensures.steps.0
