-- `turning::turn` meets its contract.
use mathlib.Core.Path.{sym, ◌∙◌, ap, subst}
use Rattle.board.specs.Gate.{gate_of, board_tests, boarded_by}
use Rattle.board.specs.Said.{Boards}
use Rattle.board.proofs.Saying.{boards_by}
use Rattle.board.proofs.Passing.{gate_number}
use Rattle.turning.specs.Turned.{turned_on}
use Rattle.turning.proofs.turn.Goals as goal
use Rattle.refusal.specs.Refusals.{Verdict}

pub turned-other-requires : goal.turned-other-requires
turned-other-requires c = sym c.gate-v.ensures ∙ c.in-Ok.is

pub returns-in-Err : goal.returns-in-Err
returns-in-Err c =
    let b = c.args.b in
    subst (Boards (board_tests b) (turned_on b))
    (sym (c.board_by.ensures ∙ ap (λ (v : Verdict). boarded_by v (turned_on b)) (sym c.in-Err.is ∙ c.gate-v.ensures)))
    (boards_by (gate_of b) (board_tests b) (turned_on b) (gate_number b))

pub returns-in-Ok : goal.returns-in-Ok
returns-in-Ok c =
    let b = c.args.b in
    subst (Boards (board_tests b) (turned_on b))
    (sym (c.board_by-in-Ok.ensures ∙ ap (boarded_by _) c.turned-other.ensures
    ∙ ap (λ (v : Verdict). boarded_by v (turned_on b)) (sym c.in-Ok.is ∙ c.gate-v.ensures)))
    (boards_by (gate_of b) (board_tests b) (turned_on b) (gate_number b))
