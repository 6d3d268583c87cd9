-- `board::RetractableBoard::judge` meets its contract.
use Rattle.board.specs.Gate.{gate_of, board_tests}
use Rattle.board.proofs.Saying.{boards_by}
use Rattle.board.proofs.Passing.{gate_number}
use Rattle.board.proofs.RetractableBoard.judge.Goals as goal

pub returns : goal.returns
returns c = let b = c.args.self in rw (c.kept-self.ensures, c.gate-v.ensures) (boards_by (gate_of b) (board_tests b) b (gate_number b))
