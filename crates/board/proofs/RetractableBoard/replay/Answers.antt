-- `board::RetractableBoard::replay` meets its contract.
use Rattle.refusal.specs.declared.Refusal.TheVariants.{Step}
use Rattle.refusal.specs.Refusals.{unless, and_then, nothing_refused}
use Rattle.moves.specs.Stepping.{possible_for}
use Rattle.board.specs.Gate.{pos_on}
use Rattle.board.specs.inner.Gates.{replay_gate}
use Rattle.board.specs.Moving.{replay_tests, replayed_on}
use Rattle.board.proofs.Saying.{boards_by}
use Rattle.board.proofs.Moving.{replay_number}
use Rattle.board.proofs.RetractableBoard.replay.Goals as goal

pub returns : goal.returns
returns c = let b = c.args.self in let r = c.args.r in let k = c.args.kind in rw c.replayed-z.ensures (boards_by (and_then (replay_gate b) (unless (possible_for (pos_on b) r k) Step nothing_refused)) (replay_tests b r k) (replayed_on b r k) (replay_number b r k))
