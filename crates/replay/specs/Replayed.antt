-- Replay: refusal 12, or the one value of the replayed position.
use Rattle.std.specs.Prelude.{cond, ℕ}
use Rattle.laws.specs.declared.Position.{Position}
use Rattle.laws.specs.declared.ChessRetraction.{ChessRetraction}
use Rattle.laws.specs.Positions.{Pos}
use Rattle.laws.specs.Moves.{replayed}
use Rattle.refusal.specs.declared.Refusal.TheVariants.{Step}
use Rattle.position.specs.declared.Positioned.{Positioned}
use Rattle.position.specs.Answers.{position_of, answered, refused}
use Rattle.moves.specs.Stepping.{possible_for}

-- "the men, turn, rights and state after the move"
unfoldable pub replayed_for : Pos → ChessRetraction → ℕ → Position
replayed_for p r k = position_of (replayed p r k)

-- "then 12: unless a man of the side to move on the target can make that step to the source"
unfoldable pub replay_to : Pos → ChessRetraction → ℕ → Positioned
replay_to p r k = cond (possible_for p r k) (answered (replayed_for p r k)) (refused Step)
