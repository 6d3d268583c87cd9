-- `board::RetractableBoard::set_uncertain_ep` meets its contract.
use Rattle.laws.specs.Positions.{uncertain}
use Rattle.board.specs.Gate.{gate_of, board_tests}
use Rattle.board.specs.Answers.{with_passant}
use Rattle.board.proofs.Saying.{boards_by}
use Rattle.board.proofs.Passing.{gate_number}
use Rattle.board.proofs.RetractableBoard.set_uncertain_ep.Goals as goal

pub returns : goal.returns
returns c = let b = c.args.self in rw (c.board_by.ensures, c.gate-v.ensures, c.uncertain_of-passant.ensures) (boards_by (gate_of b) (board_tests b) (with_passant b (uncertain b.passant)) (gate_number b))
