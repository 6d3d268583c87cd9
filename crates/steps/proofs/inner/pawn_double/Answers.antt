-- `steps::inner::pawn_double` meets its contract.
use Rattle.steps.proofs.Steps.{double_is}
use Rattle.steps.proofs.inner.pawn_double.Goals as goal

pub returns : goal.returns
returns c = rw (c.forward-2.ensures, c.forward.ensures, c.bit.ensures, c.get_rank.ensures, c.own_rank.ensures) (double_is c.args.color c.args.sq c.requires)
