-- `steps::inner::get_pawn_attacks` meets its contract.
use Rattle.steps.proofs.Steps.{attacks_are}
use Rattle.steps.proofs.inner.get_pawn_attacks.Goals as goal

pub returns : goal.returns
returns c = rw (c.left.ensures, c.right.ensures, c.forward-ahead.ensures, c.bit.ensures) (attacks_are c.args.color c.args.sq c.requires)
