-- `accept::inner::third` meets its contract.
use mathlib.Core.Path.{◌∙◌}
use Rattle.accept.specs.Verdicts.{third_of}
use Rattle.accept.proofs.inner.third.Goals as goal

pub returns : goal.returns
unfolding third_of
returns c = c.first.ensures ∙ rw (c.bad_passant-state.ensures, c.bad_rights-rights.ensures, c.bad_pawns-pawns.ensures)
