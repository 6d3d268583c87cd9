-- `board::RetractableBoard::make_retraction_new` meets its contract.
use mathlib.Core.List.{◌++◌}
use mathlib.Core.Path.{◌∙◌, sym, subst}
use Rattle.board.specs.declared.Boarded.{Boarded}
use Rattle.board.specs.Gate.{pos_on, board_tests}
use Rattle.board.specs.Said.{Boards}
use Rattle.board.specs.Moving.{unmake_tests, unmade_on}
use Rattle.board.specs.inner.Gates.{unmake_gate}
use Rattle.board.proofs.Saying.{boards_by}
use Rattle.board.proofs.Moving.{unmake_number}
use Rattle.board.proofs.RetractableBoard.make_retraction_new.Goals as goal

pub unmade-self-requires : goal.unmade-self-requires
unmade-self-requires c = (c.between_table-t.ensures, sym c.unmake_gate-v.ensures ∙ c.in-Ok.is)

pub returns-in-Err : goal.returns-in-Err
returns-in-Err c = let b = c.args.self in let r = c.args.r in subst (λ (x : Boarded). Boards (board_tests b ++ unmake_tests (pos_on b) r) (unmade_on b r) x) (sym (c.board_by.ensures ∙ rw (sym c.unmake_gate-v.ensures ∙ c.in-Err.is))) (boards_by (unmake_gate b r) (board_tests b ++ unmake_tests (pos_on b) r) (unmade_on b r) (unmake_number b r))

pub returns-in-Ok : goal.returns-in-Ok
returns-in-Ok c = let b = c.args.self in let r = c.args.r in rw (c.board_by-in-Ok.ensures, c.unmade-self.ensures, c.unmake_gate-v.ensures) (boards_by (unmake_gate b r) (board_tests b ++ unmake_tests (pos_on b) r) (unmade_on b r) (unmake_number b r))
