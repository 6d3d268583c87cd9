-- `steps::inner::get_knight_moves` meets its contract.
use Rattle.steps.proofs.Steps.{leaps_are}
use Rattle.steps.proofs.inner.get_knight_moves.Goals as goal

pub returns : goal.returns
returns c =
    rw (c.down-2.ensures, c.down.ensures, c.up-2.ensures, c.up.ensures, c.right.ensures, c.left.ensures, c.right-right.ensures, c.bit-2.ensures, c.left-left.ensures, c.bit.ensures)
    (leaps_are c.args.sq c.requires)
