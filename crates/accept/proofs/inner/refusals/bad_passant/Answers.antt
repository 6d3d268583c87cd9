-- `accept::inner::refusals::bad_passant` meets its contract.
use Rattle.accept.proofs.inner.refusals.bad_passant.Goals as goal

pub returns-in-Some : goal.returns-in-Some
returns-in-Some c = rw c.in-Some.is c.bad_square.ensures
