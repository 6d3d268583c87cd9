-- `strict::inner::strict_into` meets its contract.
use mathlib.Core.Path.{sym, ◌∙◌}
use Rattle.strict.proofs.Told.{listed_refused}
use Rattle.strict.proofs.inner.strict_into.Goals as goal

pub list-requires : goal.list-requires
list-requires c = (c.requires, sym c.gate-v.ensures ∙ c.in-Ok.is)

pub returns-in-Err : goal.returns-in-Err
returns-in-Err c = listed_refused _ _ (sym c.gate-v.ensures ∙ c.in-Err.is) _
