-- `unmake::inner::back::state_before` meets its contract.
use Rattle.unmake.proofs.inner.back.state_before.Goals as goal

pub behind-requires : goal.behind-requires
behind-requires c = (c.requires.0, rw c.in-Passant.is at c.requires.1)

pub returns-in-Passant : goal.returns-in-Passant
returns-in-Passant c = rw (c.in-Passant.is, c.behind.ensures.0)
