-- `steps::inner::pawn_step` meets its contract.
use Rattle.steps.proofs.Steps.{step_is}
use Rattle.steps.proofs.inner.pawn_step.Goals as goal

pub returns : goal.returns
returns c = rw (c.forward.ensures, c.bit.ensures) (step_is c.args.color c.args.sq c.requires)
