-- `steps::inner::get_king_moves` meets its contract.
use Rattle.steps.proofs.Steps.{ring_is}
use Rattle.steps.proofs.inner.get_king_moves.Goals as goal

pub returns : goal.returns
returns c =
    rw (c.down.ensures, c.up.ensures, c.right.ensures, c.left.ensures, c.bit-king.ensures)
    (ring_is c.args.sq c.requires)
