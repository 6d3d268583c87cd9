-- `listing::inner::retractions_into` meets its contract.
use mathlib.Core.Path.{sym, ◌∙◌}
use Rattle.listing.proofs.Told.{gate_told}
use Rattle.listing.proofs.inner.retractions_into.Goals as goal

pub list-requires : goal.list-requires
list-requires c = (c.requires, sym c.gate-v.ensures ∙ c.in-Ok.is)

pub returns-in-Err : goal.returns-in-Err
returns-in-Err c = gate_told _ _ c.gate-v.ensures _ c.in-Err.is
