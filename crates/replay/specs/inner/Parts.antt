-- Parts of replay, each of them the contract of one function.
use Rattle.std.specs.Prelude.{Bool, ℕ, ◌<◌}
use Rattle.geometry.specs.declared.Color.{Color}
use Rattle.laws.specs.declared.Side.{Side}
use Rattle.laws.specs.declared.Way.{Way}
use Rattle.laws.specs.declared.EnPassantFlag.{EnPassantFlag}
use Rattle.laws.specs.declared.Edition.{Edition}
use Rattle.laws.specs.declared.Position.{Position}
use Rattle.laws.specs.declared.ChessRetraction.{ChessRetraction}
use Rattle.laws.specs.Men.{Man, Men}
use Rattle.laws.specs.Moves.{way, after, keeps, state_after}
use Rattle.laws.specs.Boards.{Clean, men_in}
use Rattle.unmake.specs.inner.Parts.{Fits}

-- the Laws' `after`, `stateAfter` and `keeps`, shut
unfoldable pub after_for : Way → Color → ℕ → ℕ → Man → Men → Men
after_for w c t s x m = after w c t s x m

unfoldable pub state_for : Edition → Men → Man → ℕ → ℕ → EnPassantFlag
state_for v m x t s = state_after v m x t s

unfoldable pub keeps_for : ℕ → ℕ → Color → Side → Bool
keeps_for t s c d = keeps t s c d

-- what the move forward is asked: clean men, and what the test of the step says of the numbers
pub record Goes (p : Position) (r : ChessRetraction) (k : ℕ) : Type 0 where
  pub sound : Clean p.pieces p.colors
  pub source_in : r.source < 64
  pub target_in : r.target < 64
  pub kind_in : k < 6
  pub fits : Fits (way (men_in p r.target) r.target r.source r.uncaptured) p.turn r.source
