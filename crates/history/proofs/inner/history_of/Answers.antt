-- `history::inner::history_of` meets its contract.
use mathlib.Core.Path.{sym, ◌∙◌}
use borrow.Author.Rules.{rules}
use Rattle.history.proofs.Answering.{gate_let, gate_told, told_depth, told_in}
use Rattle.history.proofs.inner.history_of.Goals as goal

pub returns-in_err-map_err : goal.returns-in_err-map_err
returns-in_err-map_err c = gate_told _ _ _ c.gate.ensures c.map_err.ensures.cases c.in_err-map_err.was _ c.from_residual.ensures.1

pub returns-then-not-contains : goal.returns-then-not-contains
returns-then-not-contains c = told_depth _ _ (sym c.gate.ensures ∙ gate_let _ c.map_err.ensures.cases c.in_ok-map_err.was) (λ q. search rules)

pub returns : goal.returns
returns c = told_in _ _ (sym c.gate.ensures ∙ gate_let _ c.map_err.ensures.cases c.in_ok-map_err.was) (search rules) (search rules) _ c.last_ply.ensures
