-- `castling::inner::king_after` meets its contract.
use mathlib.Core.Path.{◌∙◌, sym}
use Rattle.castling.proofs.inner.king_after.Goals as goal

pub returns-then-stands : goal.returns-then-stands
returns-then-stands c = rw (c.in-Ok.is, sym c.stands.ensures ∙ c.if-stands.true)

pub returns-in-Err : goal.returns-in-Err
returns-in-Err c = rw c.in-Err.is

pub returns-else-stands : goal.returns-else-stands
returns-else-stands c = rw (c.in-Ok.is, sym c.stands.ensures ∙ c.if-stands.false)
