-- `accept::inner::first` meets its contract.
use Rattle.accept.proofs.inner.first.Goals as goal

pub returns-then-pawns : goal.returns-then-pawns
returns-then-pawns c = rw c.if-pawns.true

pub returns-then-rights : goal.returns-then-rights
returns-then-rights c = rw (c.if-pawns.false, c.if-rights.true)

pub returns-then-passant : goal.returns-then-passant
returns-then-passant c = rw (c.if-pawns.false, c.if-rights.false, c.if-passant.true)

pub returns : goal.returns
returns c = rw (c.if-pawns.false, c.if-rights.false, c.if-passant.false)
