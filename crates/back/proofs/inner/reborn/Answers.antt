-- `back::inner::reborn` meets its contract.
use mathlib.Core.Path.{◌∙◌, sym}
use Rattle.incremental.specs.Moved.{passant_stored, reborn_of}
use Rattle.back.proofs.inner.reborn.Goals as goal

pub returns-then-is_passant_uncapture : goal.returns-then-is_passant_uncapture
unfolding reborn_of passant_stored
returns-then-is_passant_uncapture c = c.xor.ensures ∙ rw (c.bit.ensures, c.ubackward-square.ensures.0, sym c.is_passant_uncapture.ensures ∙ c.if-is_passant_uncapture.true)

pub returns : goal.returns
unfolding reborn_of
returns c = rw (sym c.is_passant_uncapture.ensures ∙ c.if-is_passant_uncapture.false)
