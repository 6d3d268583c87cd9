-- `solution::check` meets its contract.
use mathlib.Core.Path.{refl}
use Rattle.text.proofs.RoundTrip.{read_accepted}
use Rattle.solution.proofs.Answering.{position_let, checks_handed, checks_told}
use Rattle.solution.proofs.check.Goals as goal

pub today-requires : goal.today-requires
today-requires c = (read_accepted _ _ _ c.read-b.ensures (position_let _ c.map_err.ensures.cases c.in_ok-map_err.was)).0

pub returns-in_err-map_err : goal.returns-in_err-map_err
returns-in_err-map_err c = checks_handed _ _ _ _ c.read-b.ensures _ refl c.map_err.ensures.cases c.in_err-map_err.was _ c.from_residual.ensures.1

pub returns : goal.returns
returns c = checks_told _ _ _ _ c.read-b.ensures c.judged.result c.today.result (position_let _ c.map_err.ensures.cases c.in_ok-map_err.was) c.today.ensures.0 c.judged.ensures
