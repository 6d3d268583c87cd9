-- `strict::inner::last_move` meets its contract.
use mathlib.Core.Path.{sym, ◌∙◌}
use native.Mathlib.Omega.{arith}
use Rattle.strict.proofs.Told.{answers_by, answers_refused}
use Rattle.refusal.proofs.Saying.{handed_on}
use Rattle.strict.proofs.inner.last_move.Goals as goal

pub today-requires : goal.today-requires
today-requires c = sym c.gate.ensures ∙ c.in_ok-gate.was

pub next_from-first-requires : goal.next_from-first-requires
next_from-first-requires c = (c.requires, c.today.ensures.1, omega arith)

pub returns-in_err-gate : goal.returns-in_err-gate
returns-in_err-gate c = rw (handed_on _ _ c.from_residual.ensures.1) (answers_refused _ _ (sym c.gate.ensures ∙ c.in_err-gate.was))

pub returns : goal.returns
returns c = answers_by _ (sym c.gate.ensures ∙ c.in_ok-gate.was) _ (rw c.today.ensures.0 at c.next_from-first.ensures)
