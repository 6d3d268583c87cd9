-- `board::inner::stale_after` meets its contract.
use mathlib.Core.Path.{◌∙◌, sym}
use Rattle.refusal.proofs.Saying.{handed_on}
use Rattle.board.proofs.inner.stale_after.Goals as goal

pub stale-requires : goal.stale-requires
stale-requires c = (c.requires.0, c.requires.1 c.in_ok-v.was)

pub returns-then-stale : goal.returns-then-stale
returns-then-stale c = rw (c.in_ok-v.was, sym c.stale.ensures ∙ c.if-stale.true)

pub returns-in_err-v : goal.returns-in_err-v
returns-in_err-v c = handed_on _ _ c.from_residual.ensures.1 ∙ rw c.in_err-v.was

pub returns : goal.returns
returns c = rw (c.in_ok-v.was, sym c.stale.ensures ∙ c.if-stale.false)
