-- `strict::inner::strict_count` meets its contract.
use mathlib.Core.Path.{sym, ◌∙◌}
use Rattle.strict.proofs.Told.{counted_told, counted_refused}
use Rattle.refusal.proofs.Saying.{handed_on}
use Rattle.strict.proofs.inner.strict_count.Goals as goal

pub today-requires : goal.today-requires
today-requires c = sym c.gate.ensures ∙ c.in_ok-gate.was

pub count-requires : goal.count-requires
count-requires c = (c.requires, c.today.ensures.1)

pub returns-in_err-gate : goal.returns-in_err-gate
returns-in_err-gate c = rw (handed_on _ _ c.from_residual.ensures.1) (counted_refused _ _ (sym c.gate.ensures ∙ c.in_err-gate.was))

pub returns : goal.returns
returns c = counted_told _ (sym c.gate.ensures ∙ c.in_ok-gate.was) (rw c.today.ensures.0 at c.count.ensures)
