-- `pawns::inner::allows` meets its contract.
use Rattle.pawns.proofs.inner.allows.Goals as goal

pub returns-in-Any : goal.returns-in-Any
returns-in-Any c = rw c.in-Any.is

pub returns-in-Some : goal.returns-in-Some
returns-in-Some c = rw c.in-Some.is

pub returns-in-A : goal.returns-in-A
returns-in-A c = rw (c.in-None.is, c.in-A.is)

pub returns-in-B : goal.returns-in-B
returns-in-B c = rw (c.in-None.is, c.in-B.is)
