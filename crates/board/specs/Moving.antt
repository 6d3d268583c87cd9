-- Un-make and replay of a board.
use Rattle.std.specs.Prelude.{not, List, [], ◌∷◌, ◌++◌, ℕ}
use Rattle.laws.specs.declared.ChessRetraction.{ChessRetraction}
use Rattle.laws.specs.Positions.{Pos}
use Rattle.refusal.specs.declared.Refusal.TheVariants.{Stale, Source, Target, Held, Step}
use Rattle.accept.specs.Verdicts.{five_tests}
use Rattle.refusal.specs.Said.{Test, ◌else◌}
use Rattle.moves.specs.Stepping.{possible_for}
use Rattle.unmake.specs.Retracted.{source_for, target_for, held_for, step_for, unmade_for}
use Rattle.replay.specs.Replayed.{replayed_for}
use Rattle.board.specs.declared.RetractableBoard.{RetractableBoard}
use Rattle.board.specs.Gate.{position_on, pos_on, fresh_on}
use Rattle.board.specs.Answers.{worked_of}

-- `make_retraction_new`: "un-make 9 to 12", behind 1 to 7
abbrev pub unmake_tests : Pos → ChessRetraction → List Test
unmake_tests p r = (source_for p r else Source) ∷ (target_for p r else Target) ∷ (not (held_for p r) else Held) ∷ (step_for p r else Step) ∷ []

-- the board before a retraction
abbrev pub unmade_on : RetractableBoard → ChessRetraction → RetractableBoard
unmade_on b r = worked_of (unmade_for (pos_on b) r)

-- "Replay .. tests 1 to 5 and 7, not 6"
abbrev pub earlier_tests : RetractableBoard → List Test
earlier_tests b = five_tests (position_on b) ++ ((fresh_on b else Stale) ∷ [])

-- "then 12"
abbrev pub replay_tests : RetractableBoard → ChessRetraction → ℕ → List Test
replay_tests b r k = earlier_tests b ++ ((possible_for (pos_on b) r k else Step) ∷ [])

-- the board after the move
abbrev pub replayed_on : RetractableBoard → ChessRetraction → ℕ → RetractableBoard
replayed_on b r k = worked_of (replayed_for (pos_on b) r k)
