-- `history::plies::no_plies` meets its contract.
use mathlib.Core.Path.{ap}
use Rattle.laws.specs.declared.ChessRetraction.{ChessRetraction}
use Rattle.history.specs.declared.History.{History}
use Rattle.history.proofs.plies.no_plies.Goals as goal

pub returns : goal.returns
returns c = ap (λ (r : ChessRetraction). let h : History = record { first = r; second = r; third = r; fourth = r } in h) c.no_move-r.ensures
