-- `board::RetractableBoard::set_en_passant` meets its contract.
use Rattle.board.specs.inner.Gates.{state_gate}
use Rattle.board.specs.Answers.{state_tests, with_passant}
use Rattle.board.proofs.Saying.{boards_by}
use Rattle.board.proofs.Passing.{state_number}
use Rattle.board.proofs.RetractableBoard.set_en_passant.Goals as goal

pub returns : goal.returns
returns c = let b = c.args.self in let st = c.args.passant in rw (c.board_by.ensures, c.state_gate-v.ensures) (boards_by (state_gate b st) (state_tests b st) (with_passant b st) (state_number b st))
