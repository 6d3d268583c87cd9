-- `screen::inner::before` meets its contract.
use mathlib.Core.Path.{sym, ◌∙◌}
use Rattle.board.proofs.Moving.{unmake_number}
use Rattle.screen.proofs.Screened.{taken, left}
use Rattle.screen.proofs.inner.before.Goals as goal

pub unmade-requires : goal.unmade-requires
unmade-requires c = (c.requires, sym c.unmake_gate-v.ensures ∙ c.in-Ok.is)

pub returns-in-Ok : goal.returns-in-Ok
returns-in-Ok c = c.unmade.ensures ∙ taken _ _ c.args.b _ (unmake_number _ _) (sym c.unmake_gate-v.ensures ∙ c.in-Ok.is)

pub returns-in-Err : goal.returns-in-Err
returns-in-Err c = left _ _ c.args.b _ (unmake_number _ _) _ (sym c.unmake_gate-v.ensures ∙ c.in-Err.is)
