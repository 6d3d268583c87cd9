-- `history::plies::earlier` meets its contract.
use Rattle.chains.proofs.Boards.{past_passes}
use Rattle.history.proofs.plies.earlier.Goals as goal

pub unmade-requires : goal.unmade-requires
unmade-requires c = (c.requires.0, past_passes _ c.requires.1 _ c.requires.2)
