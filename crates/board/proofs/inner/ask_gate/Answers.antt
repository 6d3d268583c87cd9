-- `board::inner::ask_gate` meets its contract.
use mathlib.Core.Path.{◌∙◌, sym}
use native.Mathlib.Omega.{arith}
use borrow.Author.Tests.{lt-ltb, le-ltb}
use Rattle.refusal.proofs.Saying.{handed_on}
use Rattle.board.proofs.inner.ask_gate.Goals as goal

pub returns-then-sq-gt63 : goal.returns-then-sq-gt63
returns-then-sq-gt63 c = rw (sym c.gate.ensures ∙ c.in_ok-gate.was, le-ltb c.args.sq 64 (omega arith))

pub returns-in_err-gate : goal.returns-in_err-gate
returns-in_err-gate c = handed_on _ _ c.from_residual.ensures.1 ∙ rw (sym c.gate.ensures ∙ c.in_err-gate.was)

pub returns : goal.returns
returns c = rw (sym c.gate.ensures ∙ c.in_ok-gate.was, lt-ltb c.args.sq 64 (omega arith))
